-- After j turns the first j words are the sums.
-- Assumes nothing.
use Rattle.std.proofs.Common.{◌+◌, ◌-◌, ◌≤◌, get_or}
use Rattle.forms.proofs.Lists.{Replaced}
use Rattle.labyrinth.specs.Blocks.{plus}
use Rattle.table_rounds.proofs.add_key.Given as goal

abbrev pub invariant-loop-j : goal.invariant-loop-j
invariant-loop-j l = (l.j ≤ l.n) × Replaced (λ i. plus (get_or l.x i 0) (get_or l.ks (l.at + i) 0)) l.initial.y l.j l.y

abbrev pub decreases-loop-j : goal.decreases-loop-j
decreases-loop-j l = l.n - l.j
