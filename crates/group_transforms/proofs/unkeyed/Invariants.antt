-- After i turns the words below i are there.
-- Assumes nothing.
use Rattle.std.proofs.Common.{◌+◌, ◌*◌, ◌%◌, get_or}
use Rattle.forms.proofs.Lists.{Replaced}
use Rattle.labyrinth.specs.Blocks.{minus}
use Rattle.labyrinth.specs.Groups.{spaced_sub}
use Rattle.group_transforms.proofs.unkeyed.Given as goal

abbrev pub invariant-loop-i : goal.invariant-loop-i
invariant-loop-i g l = Replaced (λ i'. minus (spaced_sub l.u (get_or l.x i' 0)) (get_or l.ks (18 * g.row.N + i' % (2 * g.row.N)) 0)) l.initial.y l.i l.y
