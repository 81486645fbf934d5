-- After i turns the words below i of both halves are there.
-- Assumes nothing.
use Rattle.forms.proofs.Lists.{Replaced}
use Rattle.group_transforms.proofs.Ends.{mixed}
use Rattle.group_transforms.proofs.imix.Given as goal

abbrev pub invariant-loop-i : goal.invariant-loop-i
invariant-loop-i g l = Replaced (mixed g.row.N l.d l.h.high) l.initial.high l.i l.high × Replaced (mixed g.row.N l.d l.h.low) l.initial.low l.i l.low
