-- The loop over the pairs ends, and both places keep their lengths.
-- Assumes nothing.
use mathlib.Core.Path.{◌≡◌}
use Prim.Native.Nat.{◌≤◌, ◌-◌}
use lib.ListN.{length}
use Rattle.bench_blocks.proofs.to_and_fro.Given as goal

abbrev pub invariant-loop-i : goal.invariant-loop-i
invariant-loop-i l = (l.i ≤ l.pairs) × (length l.one ≡ length l.initial.one) × (length l.two ≡ length l.initial.two)

abbrev pub decreases-loop-i : goal.decreases-loop-i
decreases-loop-i l = l.pairs - l.i
