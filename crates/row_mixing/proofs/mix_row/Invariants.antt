-- After k turns the word is the XOR over the coefficients below k.
-- Assumes nothing.
use mathlib.Core.Path.{◌≡◌}
use Prim.Native.Nat.{◌*◌}
use lib.ListN.{get_or}
use Rattle.forms.specs.Lists.{xor_sum}
use Rattle.forms.specs.Words.{rotl}
use Rattle.field.specs.Mixing.{scale}
use Rattle.row_mixing.proofs.mix_row.Given as goal

abbrev pub invariant-loop-k : goal.invariant-loop-k
invariant-loop-k l = l.r ≡ xor_sum l.k (λ j. rotl (scale (get_or l.g j 0) l.w) (8 * j))
