-- After p turns of the outer loop and d of the inner one the two sums have the terms below p + d, and those four on.
-- Assumes nothing.
use Rattle.std.proofs.Common.{◌≡◌, ◌+◌, ◌-◌, ◌%◌, ◌≤◌}
use Rattle.labyrinth.specs.Working.{share}
use Rattle.labyrinth.proofs.Permutation.{Sums}
use Rattle.table_rounds.proofs.f_word.Given as goal

abbrev pub invariant-loop-d : goal.invariant-loop-d
invariant-loop-d l = (l.d ≤ l.n) × Sums (share l.eight l.t) l.n l.y l.j l.v (l.p + l.d) l.even l.odd

abbrev pub decreases-loop-d : goal.decreases-loop-d
decreases-loop-d l = l.n - l.d

abbrev pub invariant-loop-p : goal.invariant-loop-p
invariant-loop-p l = (l.p ≤ 4) × (l.p % l.n ≡ 0) × Sums (share l.eight l.t) l.n l.y l.j l.v l.p l.even l.odd

abbrev pub decreases-loop-p : goal.decreases-loop-p
decreases-loop-p l = 4 - l.p
