-- The sum is that of the coefficients below the index.
-- Assumes nothing.
use mathlib.Core.Path.{◌≡◌, refl}
use native.Mathlib.Omega.{arith}
use Rattle.forms.specs.Lists.{xor_sum}
use Rattle.forms.proofs.Sums.{xor_sum_next, xor_sum_end}
use Rattle.field.specs.Mixing.{row_sum}
use Rattle.rows.proofs.row_sum.Goals as goal

pub loop-coefficient-init : goal.loop-coefficient-init
unfolding xor_sum
loop-coefficient-init c = refl

pub loop-coefficient-preserved : goal.loop-coefficient-preserved
loop-coefficient-preserved c = let l = c.loop-coefficient in xor_sum_next l.coefficient-index _ l.invariant refl

pub returns : goal.returns
unfolding row_sum
returns c = let l = c.loop-coefficient in let e : l.coefficient-index ≡ 8 = omega arith in xor_sum_end _ e l.invariant
