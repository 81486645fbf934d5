-- At a place (i + 2) n of the schedule i iterations are done.
-- Assumes nothing.
use Rattle.std.proofs.Common.{◌-◌, ◌*◌}
use Rattle.labyrinth.specs.Working.{both, lookup_in}
use Rattle.labyrinth.proofs.Rounds.{Ran}
use Rattle.table_rounds.proofs.rounds_of.Given as goal

abbrev pub invariant-loop-at : goal.invariant-loop-at
invariant-loop-at l = Ran (lookup_in l.eight l.t) l.n l.ks (both l.initial.l l.initial.r) l.at (both l.l l.r)

abbrev pub decreases-loop-at : goal.decreases-loop-at
decreases-loop-at l = 18 * l.n - l.at
