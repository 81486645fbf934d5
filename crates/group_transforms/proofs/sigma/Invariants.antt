-- After j turns the words below j are there.
-- Assumes nothing.
use Rattle.std.proofs.Common.{◌/◌, ◌%◌}
use Rattle.forms.proofs.Lists.{Replaced}
use Rattle.labyrinth.specs.Cipher as spec
use Rattle.labyrinth.specs.Groups.{block_of}
use Rattle.group_transforms.proofs.sigma.Given as goal

abbrev pub invariant-loop-j : goal.invariant-loop-j
invariant-loop-j g l = Replaced (λ j'. spec.sigma (block_of g.row.N (j' / g.row.N) l.h) (j' % g.row.N)) l.initial.d l.j l.d
