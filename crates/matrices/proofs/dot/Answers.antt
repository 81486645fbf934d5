-- After j turns the sum is that over the bytes below j.
-- Assumes nothing.
use mathlib.Core.Path.{◌≡◌, refl, ap₂, ◌∙◌}
use native.Mathlib.Omega.{arith}
use Rattle.forms.specs.Lists.{xor_sum}
use Rattle.forms.proofs.Sums.{xor_sum_next, xor_sum_end}
use Rattle.field.specs.Field.{mul}
use Rattle.field.specs.Mixing.{dot}
use Rattle.matrices.proofs.dot.Goals as goal

pub loop-j-init : goal.loop-j-init
unfolding xor_sum
loop-j-init c = refl

pub loop-j-preserved : goal.loop-j-preserved
loop-j-preserved c = xor_sum_next c.loop-j.j _ c.loop-j.invariant (c.times-sum.ensures.value ∙ ap₂ mul c.byte_at.ensures refl)

pub returns : goal.returns
unfolding dot
returns c = let e : c.loop-j.j ≡ 8 = omega arith in xor_sum_end _ e c.loop-j.invariant
