-- Numbers 1 and 2 are those of expansion for a key of just the used bytes.
-- Assumes nothing.
use mathlib.Core.Path.{sym, ap, ◌∙◌}
use Prim.Native.Nat.{◌*◌, ◌≤◌}
use native.Mathlib.Nat.{mul-le-mul}
use native.Mathlib.Omega.{arith}
use Rattle.operands.specs.Operands.{zeros}
use Rattle.tape_rules.proofs.Cases.{Key_taken, from_on, key_refused, key_passed, key_unused, key_good}
use Rattle.tape.proofs.key_refusal.Goals as goal
use Rattle.tape.proofs.key_refusal.Goals.{Start, Else-number-ne0}

small : (c : Start) → c.args.n * c.args.l ≤ 255 * 255
small c =
    let p : c.args.n ≤ 255 = omega arith in
    let q : c.args.l ≤ 255 = omega arith in
    mul-le-mul p q

passed : (c : Else-number-ne0) → Key_taken c.args.n c.args.l
passed c = let a = c.args in key_passed a.n a.l a.key.now c.expand_refusal-number.ensures c.if-number-ne0.false

pub overflow_mul-used : goal.overflow_mul-used
overflow_mul-used c = omega (arith, small (goal.at.overflow_mul-used c).Start)

pub overflow_mul-used-2 : goal.overflow_mul-used-2
overflow_mul-used-2 c = omega (arith, small (goal.at.overflow_mul-used-2 c).Start)

pub returns-then-number-ne0 : goal.returns-then-number-ne0
returns-then-number-ne0 c = let a = c.args in key_refused a.n a.l a.key.now c.expand_refusal-number.ensures c.if-number-ne0.true

pub slice_bounds-zeros-count : goal.slice_bounds-zeros-count
slice_bounds-zeros-count c = let k = (passed c).used in omega (arith, c.requires)

pub slice_bounds-zeros-start : goal.slice_bounds-zeros-start
slice_bounds-zeros-start c = let k = (passed c).used in omega (arith, c.requires)

pub returns-then-not-zeros : goal.returns-then-not-zeros
returns-then-not-zeros c =
    let a = c.args in
    key_unused a.n a.l a.key.now (passed (goal.at.returns-then-not-zeros c).Else-number-ne0)
    (ap zeros (sym (from_on a.key.now (8 * (a.n * a.l)))) ∙ sym c.zeros.ensures ∙ c.if-not-zeros.true)

pub returns : goal.returns
returns c =
    let a = c.args in
    key_good a.n a.l a.key.now (passed (goal.at.returns c).Else-number-ne0)
    (ap zeros (sym (from_on a.key.now (8 * (a.n * a.l)))) ∙ sym c.zeros.ensures ∙ c.if-not-zeros.false)
