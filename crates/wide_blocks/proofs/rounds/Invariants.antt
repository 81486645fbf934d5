-- After i turns i iterations are done.
-- Assumes nothing.
use Rattle.labyrinth.specs.Groups.{lookup_four}
use Rattle.wide_blocks.proofs.Iterations.{Ran}
use Rattle.wide_blocks.proofs.rounds.Given as goal

abbrev pub invariant-loop-i : goal.invariant-loop-i
invariant-loop-i g l = Ran (lookup_four l.t) g.row.N l.ks (l.initial.y.high, l.initial.y.low) l.i (l.y.high, l.y.low)
