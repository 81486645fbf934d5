-- What a step accepts, in plain terms: when its number is 0, when it is 8, and when the tape is ended.
-- Assumes nothing.
use mathlib.Core.Path.{◌≡◌, refl, sym, ap, ◌∙◌}
use mathlib.Core.Bool.{Bool, true, false, true≢false}
use mathlib.Core.List.{List}
use mathlib.Core.Logic.{◌⊎◌, inl, inr, ⊎_elim, ◌↔◌}
use Prim.Native.Nat.{ℕ, ◌+◌, ◌-◌, ◌*◌, ◌≤◌, ◌<◌}
use native.Mathlib.Omega.{arith}
use borrow.Author.Tests.{eqb-true, eqb-false, le-ltb, ltb-true, ltb-false}
use lib.Dec.{eqb, ltb}
use lib.ListN.{length, get_or, take, drop, length-take, get_or-eq_default}
use lib.Seq.{get_or-take, get_or-drop}
use Rattle.forms.proofs.Refusals.{unless_zero}
use Rattle.forms.proofs.Booleans.{when_all}
use Rattle.labyrinth.specs.Cipher.{article}
use Rattle.labyrinth.specs.Keys.{E, U}
use Rattle.labyrinth.specs.Refusals.{legal, legal_length, Legal, LegalLength}
use Rattle.labyrinth.proofs.Refusals.{legal_iff, legal_length_iff}
use Rattle.operands.specs.Operands.{zeros}
use Rattle.operands.proofs.Operands.{zeros_iff}
use Rattle.tape_rules.specs.declared.Tape.{Tape}
use Rattle.tape_rules.specs.Steps.{Answer, ended, refuses, ends, at_end, key_refusal, set_key, map_refusal, map_block, mix_word, command, step}
use Rattle.tape_rules.specs.Plain.{UnusedZero}
use Rattle.tape_rules.proofs.Cases.{command_0, command_1, command_3, command_4, command_5, command_other, set_key_short, map_block_short, mix_word_short, step_room, step_ended, step_empty}
use Rattle.tape_rules.proofs.Ways.{Known, sets, maps, mixes, Unknown, keeps_some, keeps_not_eight, Maps, enciphers, deciphers, Way, over, empty, closed, unknown, cut, refused, set, mapped, mixed, way_of}

-- ---- unused bytes

pub unused_iff : (at used width : ℕ) (rest : List ℕ) → (zeros (drop used (take width (drop at rest))) ≡ true) ↔ UnusedZero at used width rest
unused_iff at used width rest = (down, λ u. (zeros_iff (drop used (take width (drop at rest)))).1 (λ j. up u j (ltb (used + j) width) refl))
  where
    down : zeros (drop used (take width (drop at rest))) ≡ true → UnusedZero at used width rest
    down e i h k =
        let p : i ≡ used + (i - used) = omega arith in
        sym (get_or-drop at rest i 0) ∙ sym (get_or-take width (drop at rest) i 0 k) ∙ ap (λ (x : ℕ). get_or (take width (drop at rest)) x 0) p
        ∙ sym (get_or-drop used (take width (drop at rest)) (i - used) 0) ∙ (zeros_iff (drop used (take width (drop at rest)))).0 e (i - used)

    up : UnusedZero at used width rest → (j : ℕ) (b : Bool) → ltb (used + j) width ≡ b → get_or (drop used (take width (drop at rest))) j 0 ≡ 0
    up u j true e =
        let h = ltb-true (used + j) width e in
        get_or-drop used (take width (drop at rest)) j 0 ∙ get_or-take width (drop at rest) (used + j) 0 h ∙ get_or-drop at rest (used + j) 0 ∙ u (used + j) (omega arith) h
    up u j false e =
        let h = ltb-false (used + j) width e in
        get_or-drop used (take width (drop at rest)) j 0 ∙ get_or-eq_default (take width (drop at rest)) 0 (omega (arith, length-take width (drop at rest)))

-- ---- the commands' numbers

-- an 01 of n and l passes exactly when n is 1, 2 or 4, l is 2, 3 or 4, and each unused key byte is 0
pub key_iff : (n l : ℕ) (rest : List ℕ) → (key_refusal n l (take 128 (drop 3 rest)) ≡ 0) ↔ (Legal n × LegalLength l × UnusedZero 3 (8 * (n * l)) 128 rest)
unfolding key_refusal
key_iff n l rest = (
  λ e. let a = unless_zero (legal n) 0 _ e in let b = unless_zero (legal_length l) 1 _ a.1 in
      let c = unless_zero (zeros (drop (8 * (n * l)) (take 128 (drop 3 rest)))) 9 0 b.1 in
      ((legal_iff n).0 a.0, (legal_length_iff l).0 b.0, (unused_iff 3 (8 * (n * l)) 128 rest).0 c.0),
  λ h. rw ((legal_iff n).1 h.0, (legal_length_iff l).1 h.1, (unused_iff 3 (8 * (n * l)) 128 rest).1 h.2),
)

-- a 03 or 04 passes exactly when a key was set, its n is 1, 2 or 4, and each unused block byte is 0
pub map_iff : (t : Tape) (rest : List ℕ) → (map_refusal t (take 64 (drop 1 rest)) ≡ 0) ↔ ((t.keyed ≡ true) × Legal t.key.n × UnusedZero 1 (16 * t.key.n) 64 rest)
unfolding map_refusal
map_iff t rest = (
  λ e. let a = unless_zero t.keyed 8 _ e in let b = unless_zero (legal t.key.n) 0 _ a.1 in
      let c = unless_zero (zeros (drop (16 * t.key.n) (take 64 (drop 1 rest)))) 9 0 b.1 in
      (a.0, (legal_iff t.key.n).0 b.0, (unused_iff 1 (16 * t.key.n) 64 rest).0 c.0),
  λ h. rw (h.0, (legal_iff t.key.n).1 h.1, (unused_iff 1 (16 * t.key.n) 64 rest).1 h.2),
)

-- ---- when the number is 0

-- a command that is obeyed
pub data Obeyed (t : Tape) (rest : List ℕ) : Type 0 where
  end : 0 < length rest → get_or rest 0 0 ≡ 0 → Obeyed t rest
  key : get_or rest 0 0 ≡ 1 → 131 ≤ length rest → Legal (get_or rest 1 0) → LegalLength (get_or rest 2 0) → UnusedZero 3 (8 * (get_or rest 1 0 * get_or rest 2 0)) 128 rest
      → Obeyed t rest
  block : (get_or rest 0 0 ≡ 3) ⊎ (get_or rest 0 0 ≡ 4) → 65 ≤ length rest → t.keyed ≡ true → Legal t.key.n → UnusedZero 1 (16 * t.key.n) 64 rest → Obeyed t rest
  word : get_or rest 0 0 ≡ 5 → 9 ≤ length rest → Obeyed t rest

maps_one : {c : ℕ} {m : ℕ → List ℕ → List ℕ → List ℕ} → Maps c m → (c ≡ 3) ⊎ (c ≡ 4)
maps_one (enciphers e) = inl e
maps_one (deciphers e) = inr e

module _ (t : Tape) (rest : List ℕ) where
  way_zero : {a : Answer} → Way t rest a → a.number ≡ 0 → (t.ended ≡ true) ⊎ Obeyed t rest
  way_zero (over e) z = inl e
  way_zero (empty _ _) z = let f : ⊥ = omega arith in absurd f
  way_zero (closed g e) z = inr (end g.some e)
  way_zero (unknown _ _) z = let f : ⊥ = omega arith in absurd f
  way_zero (cut _ _ _) z = let f : ⊥ = omega arith in absurd f
  way_zero (refused r k _ _ _) z = let f : ⊥ = omega (arith, keeps_some r k) in absurd f
  way_zero (set _ e h r) z = let k = (key_iff (get_or rest 1 0) (get_or rest 2 0) rest).0 r in inr (key e h k.0 k.1 k.2)
  way_zero (mapped _ e h r) z = let k = (map_iff t rest).0 r in inr (block (maps_one e) h k.0 k.1 k.2)
  way_zero (mixed _ e h) z = inr (word e h)

  set_key_zero : 131 ≤ length rest → key_refusal (get_or rest 1 0) (get_or rest 2 0) (take 128 (drop 3 rest)) ≡ 0 → (set_key t rest).number ≡ 0
  unfolding set_key
  set_key_zero h e = rw (le-ltb (length rest) 131 h, e)

  map_block_zero : (m : ℕ → List ℕ → List ℕ → List ℕ) → 65 ≤ length rest → map_refusal t (take 64 (drop 1 rest)) ≡ 0 → (map_block m t rest).number ≡ 0
  unfolding map_block
  map_block_zero m h e = rw (le-ltb (length rest) 65 h, e)

  mix_word_zero : 9 ≤ length rest → (mix_word t rest).number ≡ 0
  unfolding mix_word
  mix_word_zero h = rw (le-ltb (length rest) 9 h)

  obeyed_some : Obeyed t rest → 0 < length rest
  obeyed_some (end h _) = h
  obeyed_some (key _ h _ _ _) = omega arith
  obeyed_some (block _ h _ _ _) = omega arith
  obeyed_some (word _ h) = omega arith

  obeyed_zero : Obeyed t rest → (command (get_or rest 0 0) t rest).number ≡ 0
  obeyed_zero (end _ e) = ap (λ (a : Answer). a.number) (command_0 t rest e)
  obeyed_zero (key e h n l u) = ap (λ (a : Answer). a.number) (command_1 t rest e) ∙ set_key_zero h ((key_iff (get_or rest 1 0) (get_or rest 2 0) rest).1 (n, l, u))
  obeyed_zero (block (inl e) h k n u) = ap (λ (a : Answer). a.number) (command_3 t rest e) ∙ map_block_zero (E article) h ((map_iff t rest).1 (k, n, u))
  obeyed_zero (block (inr e) h k n u) = ap (λ (a : Answer). a.number) (command_4 t rest e) ∙ map_block_zero (U article) h ((map_iff t rest).1 (k, n, u))
  obeyed_zero (word e h) = ap (λ (a : Answer). a.number) (command_5 t rest e) ∙ mix_word_zero h

  -- a step into 65 bytes: what holds of the answers to an ended state, to an empty rest and to the command holds of its answer
  step_all : (P : Answer → Type 0) → (t.ended ≡ true → P (ends t 0)) → (length rest ≡ 0 → P (at_end t)) → (0 < length rest → P (command (get_or rest 0 0) t rest))
      → P (step t rest 65)
  unfolding step
  step_all P f g h =
      when_all P t.ended f (λ _. when_all P (eqb (length rest) 0) (λ z. g (eqb-true (length rest) 0 z)) (λ z.
      let n : length rest ≡ 0 → ⊥ = eqb-false (length rest) 0 z in
      h (omega arith)))

  zero_back : (t.ended ≡ true) ⊎ Obeyed t rest → (step t rest 65).number ≡ 0
  zero_back (inl e) = ap (λ (a : Answer). a.number) (step_ended t rest 65 refl e)
  zero_back (inr o) = step_all (λ (a : Answer). a.number ≡ 0) (λ _. refl) (λ z. let f : ⊥ = omega (arith, obeyed_some o) in absurd f) (λ _. obeyed_zero o)

-- a law of a step into 65 bytes, where a number other than 5 shows that it has so many
by_room : {A : Type 0} (t : Tape) (rest : List ℕ) (room : ℕ) {number : ℕ} → (number ≡ 5 → ⊥) → ((step t rest 65).number ≡ number → A) → (step t rest room).number ≡ number
    → (room ≡ 65) × A
by_room {A} t rest room {number} other law e = either (eqb room 65) refl
  where
    either : (b : Bool) → eqb room 65 ≡ b → (room ≡ 65) × A
    either true z = let r = eqb-true room 65 z in (r, law (ap (λ (k : ℕ). (step t rest k).number) (sym r) ∙ e))
    either false z = absurd (other (sym e ∙ ap (λ (a : Answer). a.number) (step_room t rest room (eqb-false room 65 z))))

-- a step's number is 0 exactly when the answer buffer has 65 bytes, and the state is ended or the command obeyed
pub step_iff : (t : Tape) (rest : List ℕ) (room : ℕ) → ((step t rest room).number ≡ 0) ↔ ((room ≡ 65) × ((t.ended ≡ true) ⊎ Obeyed t rest))
step_iff t rest room = (
  by_room t rest room (λ e. omega arith) (way_zero t rest (way_of t rest)),
  λ h. ap (λ (r : ℕ). (step t rest r).number) h.0 ∙ zero_back t rest h.1,
)

-- ---- when the number is 8

-- a rest that stops short of a whole command: there is none, or its operands are cut short
pub data Short (rest : List ℕ) : Type 0 where
  nothing_left : length rest ≡ 0 → Short rest
  cut_short : {w : ℕ} → Known (get_or rest 0 0) w → length rest < w → Short rest

module _ (t : Tape) (rest : List ℕ) where
  way_eight : {a : Answer} → Way t rest a → a.number ≡ 8 → (t.ended ≡ false) × Short rest
  way_eight (over _) z = let f : ⊥ = omega arith in absurd f
  way_eight (empty e l) z = (e, nothing_left l)
  way_eight (closed _ _) z = let f : ⊥ = omega arith in absurd f
  way_eight (unknown _ _) z = let f : ⊥ = omega arith in absurd f
  way_eight (cut g k h) z = (g.on, cut_short k h)
  way_eight (refused r k _ _ _) z = absurd (keeps_not_eight r k z)
  way_eight (set _ _ _ _) z = let f : ⊥ = omega arith in absurd f
  way_eight (mapped _ _ _ _) z = let f : ⊥ = omega arith in absurd f
  way_eight (mixed _ _ _) z = let f : ⊥ = omega arith in absurd f

  -- a known command cut short
  cut_command : {w : ℕ} → Known (get_or rest 0 0) w → length rest < w → command (get_or rest 0 0) t rest ≡ refuses (ended t) 8 (length rest)
  cut_command (sets e w) h = command_1 t rest e ∙ set_key_short t rest (omega arith)
  cut_command (maps (inl e) w) h = command_3 t rest e ∙ map_block_short (E article) t rest (omega arith)
  cut_command (maps (inr e) w) h = command_4 t rest e ∙ map_block_short (U article) t rest (omega arith)
  cut_command (mixes e w) h = command_5 t rest e ∙ mix_word_short t rest (omega arith)

  -- what 8 answers: its one byte, all of the rest taken, and the tape ended
  pub short_step : t.ended ≡ false → Short rest → step t rest 65 ≡ refuses (ended t) 8 (length rest)
  short_step e (nothing_left l) = step_empty t rest 65 refl e l ∙ ap (λ (k : ℕ). refuses (ended t) 8 k) (sym l)
  short_step e (cut_short k h) =
      step_all t rest (λ (a : Answer). a ≡ refuses (ended t) 8 (length rest)) (λ f. absurd (true≢false (sym f ∙ e)))
      (λ l. ap (λ (k : ℕ). refuses (ended t) 8 k) (sym l)) (λ _. cut_command k h)

-- a step's number is 8 exactly when the answer buffer has 65 bytes, the state is not ended, and the rest stops short of a whole command
pub eight_iff : (t : Tape) (rest : List ℕ) (room : ℕ) → ((step t rest room).number ≡ 8) ↔ ((room ≡ 65) × (t.ended ≡ false) × Short rest)
eight_iff t rest room = (
  λ z. let h = by_room t rest room (λ e. omega arith) (way_eight t rest (way_of t rest)) z in (h.0, h.1.0, h.1.1),
  λ h. ap (λ (r : ℕ). (step t rest r).number) h.0 ∙ ap (λ (a : Answer). a.number) (short_step t rest h.1 h.2),
)

-- ---- when the tape is ended

-- a rest that begins with 00 or an unknown command
pub record Closed (rest : List ℕ) : Type 0 where
  pub some : 0 < length rest
  pub by : (get_or rest 0 0 ≡ 0) ⊎ Unknown (get_or rest 0 0)

-- no command is left in a rest: it begins so, or stops short of a whole one
pub data Ending (rest : List ℕ) : Type 0 where
  shut : Closed rest → Ending rest
  short : Short rest → Ending rest

module _ (t : Tape) (rest : List ℕ) where
  way_ends : {a : Answer} → Way t rest a → a.next.ended ≡ true → (t.ended ≡ true) ⊎ Ending rest
  way_ends (over e) z = inl e
  way_ends (empty _ e) z = inr (short (nothing_left e))
  way_ends (closed g e) z = inr (shut (record { some = g.some; by = inl e }))
  way_ends (unknown g u) z = inr (shut (record { some = g.some; by = inr u }))
  way_ends (cut _ k h) z = inr (short (cut_short k h))
  way_ends (refused _ _ _ _ _) z = inl z
  way_ends (set _ _ _ _) z = inl z
  way_ends (mapped _ _ _ _) z = inl z
  way_ends (mixed _ _ _) z = inl z

  ending_ends : Ending rest → 0 < length rest → (command (get_or rest 0 0) t rest).next.ended ≡ true
  ending_ends (shut c) s =
      ⊎_elim (λ e. ap (λ (a : Answer). a.next.ended) (command_0 t rest e))
      (λ u. ap (λ (a : Answer). a.next.ended) (command_other t rest u.not0 u.not1 u.not3 u.not4 u.not5)) c.by
  ending_ends (short (nothing_left e)) s = let f : ⊥ = omega arith in absurd f
  ending_ends (short (cut_short k h)) s = ap (λ (a : Answer). a.next.ended) (cut_command t rest k h)

-- a step into 65 bytes leaves an ended state exactly when the state was ended or no command is left
pub ends_iff : (t : Tape) (rest : List ℕ) → ((step t rest 65).next.ended ≡ true) ↔ ((t.ended ≡ true) ⊎ Ending rest)
ends_iff t rest = (
  way_ends t rest (way_of t rest),
  λ o. ⊎_elim (λ e. ap (λ (a : Answer). a.next.ended) (step_ended t rest 65 refl e))
      (λ e. step_all t rest (λ (a : Answer). a.next.ended ≡ true) (λ _. refl) (λ _. refl) (ending_ends t rest e)) o,
)
