-- After t turns the word is the XOR over the bits below t.
-- Assumes nothing.
use mathlib.Core.Path.{◌≡◌}
use Prim.Native.Nat.{◌*◌, ◌/◌, ◌%◌, ◌^◌}
use lib.ListN.{get_or}
use Rattle.forms.specs.Lists.{xor_sum}
use Rattle.row_mixing.proofs.at_bits.Given as goal

abbrev pub invariant-loop-t : goal.invariant-loop-t
invariant-loop-t l = l.r ≡ xor_sum l.t (λ k. l.c / 2 ^ k % 2 * get_or l.p k 0)
