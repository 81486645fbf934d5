-- The code's own form, which no reader has to believe: the inverse of a substitution as 256 bytes, made of any list's first 256 entries. For 256
-- different bytes it is the field's `invert`; a byte that isn't among them gets 0.
-- Assumes nothing.
use Rattle.std.specs.Prelude.{ℕ, ◌%◌, List}
use Rattle.forms.specs.Lists.{tabulate}
use Rattle.field.specs.Substitution.{sub, sub_inv}

unfoldable pub inverse_bytes : List ℕ → List ℕ
inverse_bytes s = tabulate 256 (λ y. sub_inv (tabulate 256 (sub s)) y % 256)
