-- The test is the definition.
-- Assumes nothing.
use mathlib.Core.Path.{refl}
use Rattle.labyrinth.specs.Working.{pays}
use Rattle.eight_tables.proofs.pays.Goals as goal

pub returns : goal.returns
unfolding pays
returns c = refl
