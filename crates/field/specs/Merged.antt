-- The merged table: substitution and mixing by one table of 256 words (the article's sections 3.7, last paragraph, and 4.3).
-- Assumes nothing.
use Rattle.std.specs.Prelude.{ℕ, ◌*◌, List, get_or}
use Rattle.forms.specs.Lists.{tabulate, xor_sum}
use Rattle.forms.specs.Words.{byte, rotl}
use Rattle.field.specs.Substitution.{sub}
use Rattle.field.specs.Mixing.{LCM}

-- the table's word for the byte b: S(b), multiplied by the row
unfoldable pub entry : List ℕ → List ℕ → ℕ → ℕ
entry g s b = LCM g (sub s b)

-- the table of a row g and a substitution s
unfoldable pub merged : List ℕ → List ℕ → List ℕ
merged g s = tabulate 256 (entry g s)

-- 4.3: the XOR over j of the table's word for byte j, rotated left by 8j bits
unfoldable pub lookup : List ℕ → ℕ → ℕ
lookup t w = xor_sum 8 (λ j. rotl (get_or t (byte w j) 0) (8 * j))
