-- More bytes behind a rest do not matter to a step whose number isn't 8: it reads no further than its command.
-- Assumes nothing.
use mathlib.Core.Path.{◌≡◌, refl, ap, ◌∙◌}
use mathlib.Core.Bool.{Bool, true, false, not}
use mathlib.Core.List.{List, ◌++◌}
use Prim.Native.Nat.{ℕ, ◌+◌, ◌≤◌, ◌<◌}
use native.Mathlib.Omega.{arith}
use borrow.Author.Tests.{eqb-false, ne_eqb, ltb-false, le-ltb}
use lib.Dec.{eqb, ltb}
use lib.ListN.{length, get_or, take, drop, length-append, length-drop, get_or-append}
use lib.Seq.{take-append-le, drop-append-le}
use Rattle.forms.specs.Lists.{when}
use Rattle.labyrinth.specs.Cipher.{article}
use Rattle.labyrinth.specs.Keys.{E, U}
use Rattle.tape_rules.specs.declared.Tape.{Tape}
use Rattle.tape_rules.specs.Steps.{Answer, at_end, whole, set_key, map_block, mix_word, command, step}

-- an answer's number is another than 8
abbrev Other : Answer → Type 0
Other a = a.number ≡ 8 → ⊥

when_front : (b : Bool) {w x y z : Answer} → (Other w → y ≡ w) → (Other x → z ≡ x) → Other (when b w x) → when b y z ≡ when b w x
when_front true f g = f
when_front false f g = g

module _ (t : Tape) (rest more : List ℕ) where
  length_front : {w : ℕ} → w ≤ length rest → w ≤ length (rest ++ more)
  length_front h = omega (arith, length-append rest more)

  part_front : (at width : ℕ) → at + width ≤ length rest → take width (drop at (rest ++ more)) ≡ take width (drop at rest)
  part_front at width h =
      ap (take width) (drop-append-le at rest more (omega arith)) ∙ take-append-le width (drop at rest) more (omega (arith, length-drop at rest))

  byte_front : (i : ℕ) → i < length rest → get_or (rest ++ more) i 0 ≡ get_or rest i 0
  byte_front i h = get_or-append rest more 0 i h

  whole_front : (w : ℕ) {x y : Answer} → (w ≤ length rest → y ≡ x) → Other (whole w t rest x) → whole w t (rest ++ more) y ≡ whole w t rest x
  whole_front w {x} {y} f o = either (ltb (length rest) w) refl
    where
      either : (b : Bool) → ltb (length rest) w ≡ b → whole w t (rest ++ more) y ≡ whole w t rest x
      either true e = absurd (o (rw e refl))
      either false e = let h = ltb-false (length rest) w e in rw (e, le-ltb (length (rest ++ more)) w (length_front h)) (f h)

  set_key_front : Other (set_key t rest) → set_key t (rest ++ more) ≡ set_key t rest
  unfolding set_key
  set_key_front = whole_front 131 (λ h. rw (byte_front 1 (omega arith), byte_front 2 (omega arith), part_front 3 128 h))

  map_block_front : (m : ℕ → List ℕ → List ℕ → List ℕ) → Other (map_block m t rest) → map_block m t (rest ++ more) ≡ map_block m t rest
  unfolding map_block
  map_block_front m = whole_front 65 (λ h. rw (part_front 1 64 h))

  mix_word_front : Other (mix_word t rest) → mix_word t (rest ++ more) ≡ mix_word t rest
  unfolding mix_word
  mix_word_front = whole_front 9 (λ h. rw (part_front 1 8 h))

  command_front : (c : ℕ) → Other (command c t rest) → command c t (rest ++ more) ≡ command c t rest
  unfolding command
  command_front c =
      when_front (eqb c 0) (λ _. refl)
      (when_front (eqb c 1) set_key_front
      (when_front (eqb c 3) (map_block_front (E article))
      (when_front (eqb c 4) (map_block_front (U article))
      (when_front (eqb c 5) mix_word_front (λ _. refl)))))

  -- an empty rest is answered 8, so here there is a command
  some_front : Other (when (eqb (length rest) 0) (at_end t) (command (get_or rest 0 0) t rest))
      → when (eqb (length (rest ++ more)) 0) (at_end t) (command (get_or (rest ++ more) 0 0) t (rest ++ more)) ≡ when (eqb (length rest) 0) (at_end t) (command (get_or rest 0 0) t rest)
  some_front o = either (eqb (length rest) 0) refl o
    where
      either : (b : Bool) → eqb (length rest) 0 ≡ b → Other (when b (at_end t) (command (get_or rest 0 0) t rest))
          → when (eqb (length (rest ++ more)) 0) (at_end t) (command (get_or (rest ++ more) 0 0) t (rest ++ more)) ≡ when b (at_end t) (command (get_or rest 0 0) t rest)
      either true e o = absurd (o refl)
      either false e o =
          let n : length rest ≡ 0 → ⊥ = eqb-false (length rest) 0 e in
          let h : 0 < length rest = omega arith in
          rw (ne_eqb (length (rest ++ more)) 0 (λ z. omega (arith, length-append rest more)), byte_front 0 h) (command_front (get_or rest 0 0) o)

  pub step_front : (room : ℕ) → ((step t rest room).number ≡ 8 → ⊥) → step t (rest ++ more) room ≡ step t rest room
  unfolding step
  step_front room = when_front (not (eqb room 65)) (λ _. refl) (when_front t.ended (λ _. refl) some_front)
