-- In every turn the value times x to the power m is what is asked for.
-- Assumes nothing.
use mathlib.Core.Path.{◌≡◌}
use Prim.Native.Nat.{ℕ, ◌^◌, ◌<◌}
use Rattle.field.specs.Field.{mul, power}
use Rattle.arithmetic.proofs.power.Given as goal

abbrev pub Kept : ℕ → ℕ → ℕ → ℕ → Type 0
Kept t value x m = (value < 2 ^ 8) × (mul value (power x m) ≡ t)

abbrev pub invariant-loop-m : goal.invariant-loop-m
invariant-loop-m l = Kept (power l.a l.n) l.value l.x l.m

abbrev pub decreases-loop-m : goal.decreases-loop-m
decreases-loop-m l = l.m
