-- After j turns the words below j of both halves are there.
-- Assumes nothing.
use Rattle.forms.proofs.Lists.{Replaced}
use Rattle.wide_blocks.proofs.Ends.{mixed}
use Rattle.wide_blocks.proofs.imix.Given as goal

abbrev pub invariant-loop-j : goal.invariant-loop-j
invariant-loop-j g l =
    Replaced (mixed g.row.N (l.x.high, l.x.low) l.x.high) l.initial.high l.j l.high × Replaced (mixed g.row.N (l.x.high, l.x.low) l.x.low) l.initial.low l.j l.low
