-- Words of a key that is passed by value.
-- Assumes nothing.
use mathlib.Core.List.{List, [], ◌∷◌}
use Prim.Native.Nat.{ℕ, zero, suc}
use native.Mathlib.Omega.{arith}
use mir.Val.{Val}
use denote.Array.{each}
use denote.Builtin.{u64}
use denote.Shadow.{shadow}
use Rattle.forms.proofs.Bytes.{Small}

-- each element of a record's array of words is one
pub words_small : (ws : List ℕ) (vs : List Val) → shadow (each ℕ u64.own_val ws vs) → Small ws
words_small [] vs h i = omega arith
words_small (w ∷ ws) [] h i = absurd h
words_small (w ∷ ws) (v ∷ vs) h zero = h.0.1
words_small (w ∷ ws) (v ∷ vs) h (suc i) = words_small ws vs h.1 i
