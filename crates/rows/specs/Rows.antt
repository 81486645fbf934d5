-- Mixing and the merged table by a row that is handed in (document 02, Job 4): which rows are turned away, in the order of the checks, and what is
-- answered then. Mixing itself and the table itself are the field's definitions at that row. A row is a list of eight bytes.
-- Assumes nothing.
use Rattle.std.specs.Prelude.{ℕ, zero, suc, Bool, not, List, eqb}
use Rattle.forms.specs.Refusals.{unless}
use Rattle.field.specs.Mixing.{mix, row_sum}
use Rattle.rows.specs.declared.Mixed.{Mixed}

-- the coefficients don't XOR to zero
unfoldable pub accepted : List ℕ → Bool
accepted g = not (eqb (row_sum g) 0)

-- mixing: 13 if the row's coefficients XOR to zero
unfoldable pub row_refusal : List ℕ → ℕ
row_refusal g = unless (accepted g) 13 0

-- making the merged table: 13, then 5 if the table buffer isn't 256 words
unfoldable pub table_refusal : List ℕ → ℕ → ℕ
table_refusal g room = unless (accepted g) 13 (unless (eqb room 256) 5 0)

-- what mixing answers, by its number: the word mixed by the row, or the zero word
unfoldable pub mixed : List ℕ → ℕ → ℕ → Mixed
mixed g w zero = record { number = 0; word = mix g w }
mixed g w (suc r) = record { number = suc r; word = 0 }
