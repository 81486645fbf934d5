-- The sum is that of the coefficients below the index.
-- Assumes nothing.
use mathlib.Core.Path.{◌≡◌}
use lib.ListN.{get_or}
use Rattle.forms.specs.Lists.{xor_sum}
use Rattle.rows.proofs.row_sum.Given as goal

abbrev pub invariant-loop-coefficient : goal.invariant-loop-coefficient
invariant-loop-coefficient l = l.sum ≡ xor_sum l.coefficient-index (λ k. get_or l.fn.g k 0)
