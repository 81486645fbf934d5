-- What the later entries add to the chain, as they are passed.
-- Assumes nothing.
use Prim.Native.Nat.{◌≤◌, ◌<◌, ◌-◌}
use Rattle.registers.specs.Registers.{held}
use Rattle.key_register.proofs.Following.{Followed}
use Rattle.key_register.proofs.follow.Given as goal

abbrev pub invariant-loop-i : goal.invariant-loop-i
invariant-loop-i l = (l.i ≤ l.n) × (l.steps < l.i) × Followed (held l.r) l.start l.reached l.at l.steps l.i

abbrev pub decreases-loop-i : goal.decreases-loop-i
decreases-loop-i l = l.n - l.i
