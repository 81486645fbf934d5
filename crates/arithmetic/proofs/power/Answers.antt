-- In every turn the value times x to the power m is what is asked for.
-- Assumes nothing.
use mathlib.Core.Path.{◌≡◌, sym, ap, ap₂, ◌∙◌}
use Prim.Native.Nat.{ℕ, ◌/◌, ◌%◌}
use native.Mathlib.Omega.{arith}
use Rattle.field.specs.Field.{mul, power}
use Rattle.field.proofs.Field.{mul_lt, one-mul, mul-one}
use Rattle.field.proofs.Power.{square, power_none, power_lt, power_even, power_odd}
use Rattle.arithmetic.proofs.power.Goals as goal
use Rattle.arithmetic.proofs.power.Goals.{then-odd, else-odd}
use Rattle.arithmetic.proofs.power.Invariants.{Kept}

-- one turn on, where m is odd and where it is even
odd : (v x m : ℕ) {t v' x' : ℕ} → Kept t v x m → m % 2 ≡ 1 → v' ≡ mul v x → x' ≡ square x → Kept t v' x' (m / 2)
odd v x m k h e f = (rw e (mul_lt v x), ap₂ (λ (y z : ℕ). mul y (power z (m / 2))) e f ∙ power_odd v x m h ∙ k.1)

even : (v x m : ℕ) {t v' x' : ℕ} → Kept t v x m → (m % 2 ≡ 1 → ⊥) → v' ≡ v → x' ≡ square x → Kept t v' x' (m / 2)
even v x m k h e f = (rw e k.0, ap₂ (λ (y z : ℕ). mul y (power z (m / 2))) e f ∙ power_even v x m h ∙ k.1)

pub loop-m-init : goal.loop-m-init
loop-m-init c = (omega arith, one-mul _ (power_lt _ _))

pub loop-m-preserved : goal.loop-m-preserved
loop-m-preserved c =
    let l = c.loop-m in
    let x = c.times-x.ensures.value in
    elim c.if-odd.branch [
      | then-odd w ↦ odd l.value l.x l.m l.invariant w.if-odd.true (w.value-is ∙ w.times-value.ensures.value) x
      | else-odd w ↦ even l.value l.x l.m l.invariant w.if-odd.false w.value-is x
    ]

pub returns : goal.returns
returns c =
    let l = c.loop-m in
    let e : l.m ≡ 0 = omega arith in
    sym (mul-one l.value l.invariant.0) ∙ ap (mul l.value) (sym (ap (power l.x) e ∙ power_none l.x)) ∙ l.invariant.1
