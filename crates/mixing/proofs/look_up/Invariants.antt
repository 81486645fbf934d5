-- After j turns the word is the XOR over the bytes below j.
-- Assumes nothing.
use mathlib.Core.Path.{◌≡◌}
use Prim.Native.Nat.{◌*◌}
use lib.ListN.{get_or}
use Rattle.forms.specs.Lists.{xor_sum}
use Rattle.forms.specs.Words.{byte, rotl}
use Rattle.mixing.proofs.look_up.Given as goal

abbrev pub invariant-loop-j : goal.invariant-loop-j
invariant-loop-j l = l.r ≡ xor_sum l.j (λ k. rotl (get_or l.t (byte l.w k) 0) (8 * k))
