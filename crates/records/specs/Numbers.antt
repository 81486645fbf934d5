-- A lent record has a length: 4 if it isn't its layout's, before anything else, a number of ours as for rows; then what the further checks say.
-- Assumes nothing.
use Rattle.std.specs.Prelude.{ℕ, ◌&&◌, eqb}
use Rattle.forms.specs.Refusals.{unless}

-- by the length of a store
unfoldable pub store_number : ℕ → ℕ → ℕ
store_number store further = unless (eqb store 1072) 4 further

-- by the lengths of a store and of a working key
unfoldable pub records_number : ℕ → ℕ → ℕ → ℕ
records_number store working further = unless (eqb store 1072 && eqb working 272) 4 further

-- by the lengths of a store and of a row, which is eight bytes
unfoldable pub row_number : ℕ → ℕ → ℕ → ℕ
row_number store row further = unless (eqb store 1072 && eqb row 8) 4 further
