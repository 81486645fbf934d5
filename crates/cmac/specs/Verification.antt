-- What verifying a tag answers.
-- Assumes nothing.
use Rattle.std.specs.Prelude.{ℕ, zero, suc, false, List}
use Rattle.modes.specs.Cmac.{valid}
use Rattle.cmac.specs.declared.Verified.{Verified}

-- by its number: whether the given tag is the message's, or a no
unfoldable pub verification : (List ℕ → List ℕ) → List ℕ → List ℕ → ℕ → Verified
verification e message given zero = record { number = 0; yes = valid e message given }
verification e message given (suc r) = record { number = suc r; yes = false }
