-- As `times` goes, with a word of eight bytes in the byte's place, to the eighth turn.
-- Assumes nothing.
use mathlib.Core.Path.{◌≡◌, sym, ap, ◌∙◌}
use native.Mathlib.Omega.{arith}
use Rattle.forms.specs.Words.{each_byte}
use Rattle.forms.proofs.Sums.{xor_sum_end}
use Rattle.field.specs.Field.{times_x}
use Rattle.field.proofs.Scale.{shift_each_zero, shift_each_next, scale_bits}
use Rattle.arithmetic.proofs.Turns.{turned_none, turned_next}
use Rattle.arithmetic.proofs.times_each.Goals as goal

pub loop-init : goal.loop-init
loop-init c = turned_none _ _ (shift_each_zero _ (omega arith))

pub loop-preserved : goal.loop-preserved
loop-preserved c =
    let l = c.loop in
    rw c.from.ensures (turned_next _ _ l.counter l.invariant (shift_each_next _ l.counter (c.times_x_each-x.ensures ∙ ap (each_byte times_x) l.invariant.power)))

pub returns : goal.returns
returns c = let e : c.loop.counter ≡ 8 = omega arith in xor_sum_end _ e c.loop.invariant.sum ∙ sym (scale_bits _ _)
