-- After t turns the word is the XOR over the bits below t.
-- Assumes nothing.
use mathlib.Core.Path.{◌≡◌, refl, ap}
use Prim.Native.Nat.{ℕ, ◌*◌}
use native.Mathlib.Omega.{arith}
use lib.ListN.{get_or}
use Rattle.forms.specs.Lists.{xor_sum}
use Rattle.forms.proofs.Sums.{xor_sum_next, xor_sum_end}
use Rattle.row_mixing.proofs.at_bits.Goals as goal

pub loop-t-init : goal.loop-t-init
unfolding xor_sum
loop-t-init c = refl

pub loop-t-preserved : goal.loop-t-preserved
loop-t-preserved c = let l = c.loop-t in xor_sum_next l.t _ l.invariant (ap (λ (d : ℕ). d * get_or c.args.p l.t 0) c.from.ensures)

pub returns : goal.returns
returns c = let e : c.loop-t.t ≡ 8 = omega arith in xor_sum_end _ e c.loop-t.invariant
