-- After b turns word i of the first b tables is there.
-- Assumes nothing.
use Rattle.eight_tables.proofs.Making.{Spreading}
use Rattle.eight_tables.proofs.spread.Given as goal

abbrev pub invariant-loop-b : goal.invariant-loop-b
invariant-loop-b l = Spreading l.x l.i l.initial.w l.b l.w
