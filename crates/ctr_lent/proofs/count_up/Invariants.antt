-- The counter blocks before `at` are made, and c with k for its last byte is the one at `at`.
-- Assumes nothing.
use mathlib.Core.Path.{◌≡◌}
use Prim.Native.Nat.{◌-◌, ◌/◌}
use lib.ListN.{length}
use Rattle.ctr_lent.proofs.Counting.{Counted}
use Rattle.ctr_lent.proofs.count_up.Given as goal

abbrev pub invariant-loop-at : goal.invariant-loop-at
invariant-loop-at l = (length l.d ≡ length l.initial.d) × Counted (length l.initial.c) l.initial.c l.c l.k l.d l.at (length l.initial.d / length l.initial.c)

abbrev pub decreases-loop-at : goal.decreases-loop-at
decreases-loop-at l = length l.d - l.at
