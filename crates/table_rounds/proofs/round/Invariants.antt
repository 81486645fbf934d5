-- After j turns the first j words of both halves are the new ones.
-- Assumes nothing.
use Rattle.std.proofs.Common.{◌-◌, ◌≤◌}
use Rattle.labyrinth.specs.Working.{lookup_in}
use Rattle.labyrinth.proofs.Rounds.{Turned}
use Rattle.table_rounds.proofs.round.Given as goal

abbrev pub invariant-loop-j : goal.invariant-loop-j
invariant-loop-j l = (l.j ≤ l.n) × Turned (lookup_in l.eight l.t) l.n l.y l.initial.l l.initial.r l.j l.l l.r

abbrev pub decreases-loop-j : goal.decreases-loop-j
decreases-loop-j l = l.n - l.j
