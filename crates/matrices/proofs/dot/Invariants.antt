-- After j turns the sum is that over the bytes below j.
-- Assumes nothing.
use mathlib.Core.Path.{◌≡◌}
use lib.ListN.{get_or}
use Rattle.forms.specs.Lists.{xor_sum}
use Rattle.forms.specs.Words.{byte}
use Rattle.field.specs.Field.{mul}
use Rattle.matrices.proofs.dot.Given as goal

abbrev pub invariant-loop-j : goal.invariant-loop-j
invariant-loop-j l = l.sum ≡ xor_sum l.j (λ k. mul (byte l.w k) (get_or l.row k 0))
