-- The code's own forms, which no reader has to believe: which number the steps answer, and a round of them.
-- Assumes nothing.
use Rattle.std.specs.Prelude.{ℕ, zero, suc, ◌+◌, ◌%◌, List, eqb, leb}
use Rattle.forms.specs.Refusals.{unless}
use Rattle.modes.specs.KeyWrap.{wrap_step}

-- 4 unless A is a semiblock, and behind it are whole ones, sixteen at most: so a step's number is a byte
unfoldable pub steps_refusal : ℕ → ℕ → ℕ
steps_refusal first rest = unless (eqb first 8) 4 (unless (eqb (rest % 8) 0) 4 (unless (leb rest 128) 4 0))

-- what m steps more make of a string, after the steps 1 to t: the steps t + 1 to t + m
unfoldable pub wrap_more : (List ℕ → List ℕ) → ℕ → ℕ → List ℕ → List ℕ
wrap_more e t zero x = x
wrap_more e t (suc m) x = wrap_step e (t + suc m) (wrap_more e t m x)
