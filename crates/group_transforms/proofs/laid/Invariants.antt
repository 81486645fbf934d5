-- After j turns the words below j of both halves are laid.
-- Assumes nothing.
use Rattle.forms.specs.Words.{rotl}
use Rattle.labyrinth.specs.Blocks.{each}
use Rattle.labyrinth.specs.Working.{both}
use Rattle.group_transforms.proofs.Ends.{Laid}
use Rattle.group_transforms.proofs.laid.Given as goal

abbrev pub invariant-loop-j : goal.invariant-loop-j
invariant-loop-j g l = Laid g.row.N (both (each 4 (λ w. rotl w 62) l.h.high) (each 4 (λ w. rotl w 2) l.h.low)) l.j l.x
