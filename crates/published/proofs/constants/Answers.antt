-- The constant is the definition's list.
-- Assumes nothing.
use mathlib.Core.Path.{refl}
use Rattle.field.specs.Published.{constants}
use Rattle.published.proofs.constants.Goals as goal

pub returns : goal.returns
unfolding constants
returns c = refl
