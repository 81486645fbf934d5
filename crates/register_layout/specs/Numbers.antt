-- What is lent with a register has a length: 4 if it isn't its layout's, before anything else, a number of ours as for rows; then what the further checks
-- say.
-- Assumes nothing.
use Rattle.std.specs.Prelude.{ℕ, ◌&&◌, eqb}
use Rattle.forms.specs.Refusals.{unless}

-- by the lengths of a register and of what is lent beside it, and the size that this must have: 40 for a wrapped key, 44 for an entry
unfoldable pub register_number : ℕ → ℕ → ℕ → ℕ → ℕ
register_number register beside size further = unless (eqb register 2824 && eqb beside size) 4 further
