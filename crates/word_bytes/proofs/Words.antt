-- The library's bytes of a word, the least first, are the article's, and the word that it makes of eight bytes is theirs.
-- Assumes nothing.
use mathlib.Core.Path.{◌≡◌, sym, ap}
use mathlib.Core.List.{List, ◌∷◌}
use Prim.Native.Nat.{ℕ, ◌%◌}
use native.Mathlib.Nat.{div-one}
use native.Mathlib.Omega.{arith}
use lib.ListN.{get_or}
use Rattle.std.specs.Int.{w16, w64, bytes_low_first, to_le_bytes, from_le_bytes}
use Rattle.forms.specs.Lists.{tabulate}
use Rattle.forms.specs.Words.{byte, join}

pub le_bytes : (w : ℕ) → to_le_bytes w64 w ≡ tabulate 8 (byte w)
unfolding tabulate byte
le_bytes w = ap (λ (x : ℕ). x % 256 ∷ bytes_low_first 1 7 w) (sym (div-one w))

pub from_le : (s : List ℕ) → from_le_bytes w64 s ≡ join 8 (λ b. get_or s b 0)
unfolding join
from_le s = omega arith

-- and of a number of two bytes
pub le_two_bytes : (v : ℕ) → to_le_bytes w16 v ≡ tabulate 2 (byte v)
unfolding tabulate byte
le_two_bytes v = ap (λ (x : ℕ). x % 256 ∷ bytes_low_first 1 1 v) (sym (div-one v))

pub from_le_two : (s : List ℕ) → from_le_bytes w16 s ≡ join 2 (λ b. get_or s b 0)
unfolding join
from_le_two s = omega arith
