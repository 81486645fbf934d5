-- After some turns the value is the XOR over as many low bits of b, x is a times that power of x, and y is what is left of b.
-- Assumes nothing.
use mathlib.Core.Path.{◌≡◌, refl, sym, ap, ◌∙◌}
use Prim.Native.Nat.{ℕ, ◌+◌}
use native.Mathlib.Nat.{mod-eq_of_lt}
use native.Mathlib.Omega.{arith}
use Rattle.field.specs.Field.{mul, shift, times_x}
use Rattle.field.proofs.TimesX.{shift_next}
use Rattle.arithmetic.specs.BitLength.{bit_length}
use Rattle.arithmetic.proofs.Turns.{turned_none, turned_next, turned_end}
use Rattle.arithmetic.proofs.times.Goals as goal

pub loop-init : goal.loop-init
unfolding shift
loop-init c = (refl, turned_none _ _ (sym (mod-eq_of_lt (omega arith))))

pub loop-preserved : goal.loop-preserved
loop-preserved c =
    let l = c.loop in
    (ap (λ (k : ℕ). k + 1) l.invariant.0, turned_next _ _ l.turns l.invariant.1 (shift_next _ l.turns (c.times_x-x.ensures ∙ ap times_x l.invariant.1.power)))

pub returns : goal.returns
unfolding mul
returns c =
    let l = c.loop in
    let e : l.turns ≡ bit_length 8 c.args.b = omega arith in
    record { value = turned_end _ _ e l.invariant.1; turns = e }
