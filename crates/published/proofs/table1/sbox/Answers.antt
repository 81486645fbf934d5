-- The constant is the definition's list.
-- Assumes nothing.
use mathlib.Core.Path.{refl}
use Rattle.field.specs.Published.{table1}
use Rattle.published.proofs.table1.sbox.Goals as goal

pub returns : goal.returns
unfolding table1
returns c = refl
