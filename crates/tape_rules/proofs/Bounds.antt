-- How much a step takes and writes.
-- Assumes nothing.
use mathlib.Core.Path.{◌≡◌, refl}
use mathlib.Core.Bool.{Bool, true, false, true≢false}
use mathlib.Core.List.{List}
use Prim.Native.Nat.{ℕ, ◌+◌, ◌*◌, ◌≤◌, ◌<◌}
use native.Mathlib.Omega.{arith}
use borrow.Author.Tests.{eqb-true, eqb-false}
use lib.Dec.{eqb}
use lib.ListN.{length, take, drop}
use Rattle.forms.specs.Words.{words}
use Rattle.forms.proofs.Bytes.{length_bytes}
use Rattle.field.specs.Mixing.{mix}
use Rattle.field.specs.Published.{row}
use Rattle.labyrinth.specs.Blocks.{each}
use Rattle.labyrinth.specs.Cipher.{article}
use Rattle.labyrinth.proofs.Undo.{length_E, length_U}
use Rattle.tape_rules.specs.declared.Tape.{Tape}
use Rattle.tape_rules.specs.Steps.{Answer, step}
use Rattle.tape_rules.proofs.Cases.{map_size, step_room}
use Rattle.tape_rules.proofs.Ways.{Known, sets, maps, mixes, Maps, enciphers, deciphers, Way, over, empty, closed, unknown, cut, refused, set, mapped, mixed, way_of}

-- 1 for true, 0 for false
abbrev pub one_if : Bool → ℕ
one_if true = 1
one_if false = 0

pub one_if_top : (b : Bool) → one_if b ≤ 1
one_if_top true = omega arith
one_if_top false = omega arith

-- it takes no more than there is, writes no more than it takes, one byte more if it ends, and no more than 65 bytes
pub record Bounded (rest : List ℕ) (a : Answer) : Type 0 where
  pub within : a.taken ≤ length rest
  pub shorter : length a.written ≤ a.taken + one_if a.next.ended
  pub fits : length a.written ≤ 65

map_length : {c : ℕ} {m : ℕ → List ℕ → List ℕ → List ℕ} → Maps c m → (n : ℕ) (ws b : List ℕ) → length (m n ws b) ≡ 16 * n
map_length (enciphers _) = length_E article
map_length (deciphers _) = length_U article

known_bounds : {c w : ℕ} → Known c w → (0 < w) × (w ≤ 131)
known_bounds (sets _ e) = (omega arith, omega arith)
known_bounds (maps _ e) = (omega arith, omega arith)
known_bounds (mixes _ e) = (omega arith, omega arith)

module _ {t : Tape} {rest : List ℕ} where
  way_bounded : {a : Answer} → Way t rest a → Bounded rest a
  way_bounded (over _) = record { within = omega arith; shorter = omega arith; fits = omega arith }
  way_bounded (empty _ _) = record { within = omega arith; shorter = omega arith; fits = omega arith }
  way_bounded (closed g _) = record { within = g.some; shorter = omega arith; fits = omega arith }
  way_bounded (unknown g _) = record { within = g.some; shorter = omega arith; fits = omega arith }
  way_bounded (cut g _ _) = record { within = omega arith; shorter = omega (arith, g.some); fits = omega arith }
  way_bounded (refused _ _ _ k h) = record { within = h; shorter = omega (arith, (known_bounds k).0); fits = omega arith }
  way_bounded (set _ _ h _) = record { within = h; shorter = omega arith; fits = omega arith }
  way_bounded (mapped g e h z) =
      let s = map_size t (take 64 (drop 1 rest)) refl z in
      let l = map_length e t.key.n t.key.words (take (16 * t.key.n) (take 64 (drop 1 rest))) in
      record { within = h; shorter = omega arith; fits = omega arith }
  way_bounded (mixed _ _ h) =
      let l = length_bytes 1 (each 1 (mix row) (words 1 (take 8 (drop 1 rest)))) in
      record { within = h; shorter = omega arith; fits = omega arith }

  way_moves : {a : Answer} → Way t rest a → a.next.ended ≡ false → 0 < a.taken
  way_moves (over _) e = absurd (true≢false e)
  way_moves (empty _ _) e = absurd (true≢false e)
  way_moves (closed _ _) e = omega arith
  way_moves (unknown _ _) e = omega arith
  way_moves (cut g _ _) e = g.some
  way_moves (refused _ _ _ k _) e = (known_bounds k).0
  way_moves (set _ _ _ _) e = omega arith
  way_moves (mapped _ _ _ _) e = omega arith
  way_moves (mixed _ _ _) e = omega arith

pub step_bounded : (t : Tape) (rest : List ℕ) (room : ℕ) → Bounded rest (step t rest room)
step_bounded t rest room = by_room (eqb room 65) refl
  where
    by_room : (b : Bool) → eqb room 65 ≡ b → Bounded rest (step t rest room)
    by_room true e = rw (eqb-true room 65 e) (way_bounded (way_of t rest))
    by_room false e = rw (step_room t rest room (eqb-false room 65 e)) (record { within = omega arith; shorter = omega arith; fits = omega arith })

-- a step into 65 bytes that does not end takes at least one byte
pub step_moves : (t : Tape) (rest : List ℕ) → (step t rest 65).next.ended ≡ false → 0 < (step t rest 65).taken
step_moves t rest = way_moves (way_of t rest)
