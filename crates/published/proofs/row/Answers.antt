-- The constant is the definition's list.
-- Assumes nothing.
use mathlib.Core.Path.{refl}
use Rattle.field.specs.Published.{row}
use Rattle.published.proofs.row.Goals as goal

pub returns : goal.returns
unfolding row
returns c = refl
