-- After k turns the word is the XOR over the coefficients below k.
-- Assumes nothing.
use mathlib.Core.Path.{◌≡◌, refl, sym, ap₂, ◌∙◌}
use native.Mathlib.Omega.{arith}
use lib.ListN.{get_or}
use Rattle.forms.specs.Lists.{xor_sum}
use Rattle.forms.specs.Words.{rotl}
use Rattle.forms.proofs.Sums.{xor_sum_next, xor_sum_end}
use Rattle.field.specs.Mixing.{scale}
use Rattle.field.proofs.Scale.{scale_powers}
use Rattle.field.proofs.Mixing.{mix_coefficients}
use Rattle.row_mixing.proofs.mix_row.Goals as goal

pub loop-k-init : goal.loop-k-init
unfolding xor_sum
loop-k-init c = refl

pub loop-k-preserved : goal.loop-k-preserved
loop-k-preserved c =
    let l = c.loop-k in
    let w = c.powers-p in
    let a = c.args in
    let made : c.at_bits.result ≡ scale (get_or a.g l.k 0) a.w =
    c.at_bits.ensures ∙ scale_powers (get_or a.g l.k 0) a.w (omega arith) w.result w.ensures in
    xor_sum_next l.k _ l.invariant (c.rotate_left-r.ensures ∙ ap₂ rotl made (omega arith))

pub returns : goal.returns
returns c = let e : c.loop-k.k ≡ 8 = omega arith in xor_sum_end _ e c.loop-k.invariant ∙ sym (mix_coefficients _ _)
