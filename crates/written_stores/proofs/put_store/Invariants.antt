-- After i turns the sets below i stand there; then what is taken.
-- Assumes nothing.
use mathlib.Core.Path.{◌≡◌}
use Prim.Native.Nat.{◌≤◌, ◌-◌}
use lib.ListN.{length}
use Rattle.written_stores.proofs.Parts.{Filled}
use Rattle.written_stores.proofs.put_store.Given as goal

abbrev pub invariant-loop-i : goal.invariant-loop-i
invariant-loop-i l = (l.i ≤ 4) × (length l.d ≡ length l.initial.d) × Filled l.st.sets l.initial.d l.i l.d

abbrev pub decreases-loop-i : goal.decreases-loop-i
decreases-loop-i l = 4 - l.i
