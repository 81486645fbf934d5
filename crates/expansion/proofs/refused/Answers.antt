-- The words are zeros.
-- Assumes nothing.
use Rattle.std.proofs.Common.{refl}
use Rattle.labyrinth.specs.Refusals.{padded}
use Rattle.expansion.proofs.refused.Goals as goal

pub returns : goal.returns
unfolding padded
returns c = refl
