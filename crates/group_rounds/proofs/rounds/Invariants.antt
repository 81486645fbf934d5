-- After i turns i iterations are done.
-- Assumes nothing.
use Rattle.std.proofs.Common.{true}
use Rattle.labyrinth.specs.Working.{both, lookup_in}
use Rattle.group_rounds.proofs.Iterations.{Ran}
use Rattle.group_rounds.proofs.rounds.Given as goal

abbrev pub invariant-loop-i : goal.invariant-loop-i
invariant-loop-i g l = Ran (lookup_in true l.t) g.row.N l.ks (both l.initial.l l.initial.r) l.i (both l.l l.r)
