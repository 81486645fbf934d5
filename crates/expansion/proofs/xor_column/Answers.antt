-- After j turns the sum is that of the half-blocks below j.
-- Assumes nothing.
use Rattle.std.proofs.Common.{◌≡◌, refl, arith}
use Rattle.forms.specs.Lists.{xor_sum}
use Rattle.forms.proofs.Sums.{xor_sum_next, xor_sum_end}
use Rattle.expansion.proofs.xor_column.Goals as goal

pub loop-j-init : goal.loop-j-init
unfolding xor_sum
loop-j-init c = refl

pub loop-j-preserved : goal.loop-j-preserved
loop-j-preserved c =
    let s = c.loop-j in
    xor_sum_next s.j _ s.invariant refl

pub returns : goal.returns
returns c = let s = c.loop-j in let e : s.j ≡ c.args.l = omega arith in xor_sum_end _ e s.invariant
