-- After k turns the row is the sum of the first k rows of the matrix, each multiplied by its element.
-- Assumes nothing.
use mathlib.Core.Path.{◌≡◌, refl, ap, ◌∙◌}
use mathlib.Core.List.{List}
use Prim.Native.Nat.{ℕ}
use native.Mathlib.Omega.{arith}
use Rattle.forms.specs.Lists.{xor_sum}
use Rattle.forms.proofs.Sums.{xor_sum_next, xor_sum_end}
use Rattle.field.specs.Mixing.{dot}
use Rattle.judge.proofs.Elimination.{dot_combined, dot_zero_row, times_matrix}
use Rattle.judge.proofs.row_times.Goals as goal

pub loop-k-init : goal.loop-k-init
unfolding xor_sum
loop-k-init c = dot_zero_row

pub loop-k-preserved : goal.loop-k-preserved
loop-k-preserved c w =
    let l = c.loop-k in
    ap (λ (r : List ℕ). dot r w) c.add_times-sum.ensures ∙ dot_combined l.r _ _ w ∙ xor_sum_next l.k _ (l.invariant w) refl

pub returns : goal.returns
returns c w = let e : c.loop-k.k ≡ 8 = omega arith in xor_sum_end _ e (c.loop-k.invariant w) ∙ times_matrix _ _ w
