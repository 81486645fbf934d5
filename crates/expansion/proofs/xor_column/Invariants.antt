-- After j turns the sum is that of the half-blocks below j.
-- Assumes nothing.
use Rattle.std.proofs.Common.{◌≡◌, ◌+◌, ◌*◌, get_or}
use Rattle.forms.specs.Lists.{xor_sum}
use Rattle.expansion.proofs.xor_column.Given as goal

abbrev pub invariant-loop-j : goal.invariant-loop-j
invariant-loop-j l = l.r ≡ xor_sum l.j (λ k. get_or l.w (k * l.n + l.i) 0)
