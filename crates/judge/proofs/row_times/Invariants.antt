-- After k turns the row is the sum of the first k rows of the matrix, each multiplied by its element.
-- Assumes nothing.
use mathlib.Core.Path.{◌≡◌}
use mathlib.Core.List.{[]}
use Prim.Native.Nat.{ℕ}
use lib.ListN.{get_or}
use Rattle.forms.specs.Lists.{xor_sum}
use Rattle.field.specs.Field.{mul}
use Rattle.field.specs.Mixing.{dot}
use Rattle.judge.proofs.row_times.Given as goal

abbrev pub invariant-loop-k : goal.invariant-loop-k
invariant-loop-k l = (w : ℕ) → dot l.r w ≡ xor_sum l.k (λ i. mul (dot (get_or l.a i []) w) (get_or l.x i 0))
