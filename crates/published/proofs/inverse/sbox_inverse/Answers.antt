-- One computed test over the table: each entry is the place where its index stands in Table 1.
-- Assumes nothing.
use mathlib.Core.Path.{refl}
use Rattle.forms.specs.Lists.{tabulate}
use Rattle.field.specs.Substitution.{sub_inv, invert}
use Rattle.field.specs.Published.{table1}
use Rattle.published.proofs.inverse.sbox_inverse.Goals as goal

pub returns : goal.returns
unfolding invert tabulate sub_inv table1
returns c = refl
