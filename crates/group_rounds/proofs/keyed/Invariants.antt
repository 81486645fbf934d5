-- After i turns the words below i are there.
-- Assumes nothing.
use Rattle.std.proofs.Common.{◌+◌, ◌%◌, get_or}
use Rattle.forms.proofs.Lists.{Replaced}
use Rattle.labyrinth.specs.Blocks.{plus}
use Rattle.group_rounds.proofs.keyed.Given as goal

abbrev pub invariant-loop-i : goal.invariant-loop-i
invariant-loop-i g l = Replaced (λ i'. plus (get_or l.r i' 0) (get_or l.ks (l.at + i' % g.row.N) 0)) l.initial.z l.i l.z
