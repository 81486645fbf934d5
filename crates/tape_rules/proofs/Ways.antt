-- The ways that a step into an answer buffer of 65 bytes can go, one constructor each. Laws of a step go by them.
-- Assumes nothing.
use mathlib.Core.Path.{◌≡◌, refl, sym, ap, ◌∙◌}
use mathlib.Core.Bool.{Bool, true, false, ◌||◌, false≢true}
use mathlib.Core.List.{List, []}
use mathlib.Core.Logic.{◌⊎◌, inl, inr}
use Prim.Native.Nat.{ℕ, zero, suc, ◌*◌, ◌≤◌, ◌<◌}
use native.Mathlib.Omega.{arith}
use borrow.Author.Tests.{eqb-true, eqb-false, ltb-true, ltb-false}
use lib.Dec.{eqb, ltb}
use lib.ListN.{length, get_or, take, drop}
use Rattle.forms.specs.Words.{words, bytes}
use Rattle.forms.specs.Refusals.{unless}
use Rattle.forms.proofs.Booleans.{when_all}
use Rattle.field.specs.Mixing.{mix}
use Rattle.field.specs.Published.{row}
use Rattle.labyrinth.specs.Blocks.{each}
use Rattle.labyrinth.specs.Cipher.{article}
use Rattle.labyrinth.specs.Keys.{E, U}
use Rattle.labyrinth.specs.Refusals.{legal, legal_length, expansion}
use Rattle.operands.specs.Operands.{zeros}
use Rattle.tape_rules.specs.declared.Tape.{Tape}
use Rattle.tape_rules.specs.Steps.{Answer, ended, with_key, answers, refuses, ends, whole, judged, key_refusal, set_key, map_refusal, map_block, mix_word, command, at_end, step}

-- a known command with operands, and its width, the command byte counted
pub data Known (c w : ℕ) : Type 0 where
  sets : c ≡ 1 → w ≡ 131 → Known c w
  maps : (c ≡ 3) ⊎ (c ≡ 4) → w ≡ 65 → Known c w
  mixes : c ≡ 5 → w ≡ 9 → Known c w

-- c is none of the command bytes
pub record Unknown (c : ℕ) : Type 0 where
  pub not0 : c ≡ 0 → ⊥
  pub not1 : c ≡ 1 → ⊥
  pub not3 : c ≡ 3 → ⊥
  pub not4 : c ≡ 4 → ⊥
  pub not5 : c ≡ 5 → ⊥

-- the tape goes on: it has not ended, and the rest has a command byte
pub record Going (t : Tape) (rest : List ℕ) : Type 0 where
  pub on : t.ended ≡ false
  pub some : 0 < length rest

-- the numbers of refusals that 'take the whole command and keep the state'
abbrev pub keeps : ℕ → Bool
keeps r = eqb r 1 || (eqb r 2 || (eqb r 9 || eqb r 10))

-- 03 enciphers, 04 deciphers
pub data Maps (c : ℕ) : (ℕ → List ℕ → List ℕ → List ℕ) → Type 0 where
  enciphers : c ≡ 3 → Maps c (E article)
  deciphers : c ≡ 4 → Maps c (U article)

pub data Way (t : Tape) (rest : List ℕ) : Answer → Type 0 where
  over : t.ended ≡ true → Way t rest (ends t 0)
  empty : t.ended ≡ false → length rest ≡ 0 → Way t rest (at_end t)
  closed : Going t rest → get_or rest 0 0 ≡ 0 → Way t rest (ends t 1)
  unknown : Going t rest → Unknown (get_or rest 0 0) → Way t rest (refuses (ended t) 7 1)
  cut : {w : ℕ} → Going t rest → Known (get_or rest 0 0) w → length rest < w → Way t rest (refuses (ended t) 8 (length rest))
  refused : {w : ℕ} (number : ℕ) → keeps number ≡ true → Going t rest → Known (get_or rest 0 0) w → w ≤ length rest → Way t rest (refuses t number w)
  set : Going t rest → get_or rest 0 0 ≡ 1 → 131 ≤ length rest → key_refusal (get_or rest 1 0) (get_or rest 2 0) (take 128 (drop 3 rest)) ≡ 0
      → Way t rest (answers (with_key (expansion article.SM 0 (get_or rest 1 0) (get_or rest 2 0) (take (8 * (get_or rest 1 0 * get_or rest 2 0)) (take 128 (drop 3 rest))) 0).key t) 0 131 [])
  mapped : {m : ℕ → List ℕ → List ℕ → List ℕ} → Going t rest → Maps (get_or rest 0 0) m → 65 ≤ length rest → map_refusal t (take 64 (drop 1 rest)) ≡ 0
      → Way t rest (answers t 0 65 (m t.key.n t.key.words (take (16 * t.key.n) (take 64 (drop 1 rest)))))
  mixed : Going t rest → get_or rest 0 0 ≡ 5 → 9 ≤ length rest → Way t rest (answers t 0 9 (bytes 1 (each 1 (mix row) (words 1 (take 8 (drop 1 rest))))))

-- ---- the numbers of 01, 03 and 04

unless_keeps : {k : ℕ} (b : Bool) (number r : ℕ) → keeps number ≡ true → (r ≡ suc k → keeps (suc k) ≡ true) → unless b number r ≡ suc k → keeps (suc k) ≡ true
unless_keeps true number r n f e = f e
unless_keeps false number r n f e = ap keeps (sym e) ∙ n

none_keeps : {k : ℕ} → 0 ≡ suc k → keeps (suc k) ≡ true
none_keeps e = let f : ⊥ = omega arith in absurd f

key_keeps : (n l : ℕ) (key : List ℕ) {k : ℕ} → key_refusal n l key ≡ suc k → keeps (suc k) ≡ true
unfolding key_refusal
key_keeps n l key =
    unless_keeps (legal n) 1 _ refl (unless_keeps (legal_length l) 2 _ refl (unless_keeps (zeros (drop (8 * (n * l)) key)) 10 _ refl none_keeps))

map_keeps : (t : Tape) (block : List ℕ) {k : ℕ} → map_refusal t block ≡ suc k → keeps (suc k) ≡ true
unfolding map_refusal
map_keeps t block =
    unless_keeps t.keyed 9 _ refl (unless_keeps (legal t.key.n) 1 _ refl (unless_keeps (zeros (drop (16 * t.key.n) block)) 10 _ refl none_keeps))

pub keeps_some : (number : ℕ) → keeps number ≡ true → 0 < number
keeps_some zero e = absurd (false≢true e)
keeps_some (suc k) e = omega arith

pub keeps_not_eight : (number : ℕ) → keeps number ≡ true → number ≡ 8 → ⊥
keeps_not_eight number e z = false≢true (ap keeps (sym z) ∙ e)

-- ---- a step goes one of them

pub judged_all : (P : Answer → Type 0) (r w : ℕ) (t : Tape) {a : Answer} → ((k : ℕ) → r ≡ suc k → P (refuses t (suc k) w)) → (r ≡ 0 → P a) → P (judged r w t a)
judged_all P zero w t f g = g refl
judged_all P (suc k) w t f g = f k refl

pub whole_all : (P : Answer → Type 0) (w : ℕ) (t : Tape) (rest : List ℕ) {a : Answer} → (length rest < w → P (refuses (ended t) 8 (length rest))) → (w ≤ length rest → P a)
    → P (whole w t rest a)
whole_all P w t rest f g = when_all P (ltb (length rest) w) (λ e. f (ltb-true (length rest) w e)) (λ e. g (ltb-false (length rest) w e))

module _ (t : Tape) (rest : List ℕ) (g : Going t rest) where
  set_key_way : get_or rest 0 0 ≡ 1 → Way t rest (set_key t rest)
  unfolding set_key
  set_key_way e =
      whole_all (Way t rest) 131 t rest (λ h. cut g (sets e refl) h)
      (λ h. judged_all (Way t rest) (key_refusal (get_or rest 1 0) (get_or rest 2 0) (take 128 (drop 3 rest))) 131 t (λ k r. refused (suc k) (key_keeps _ _ _ r) g (sets e refl) h) (λ z. set g e h z))

  map_block_way : (m : ℕ → List ℕ → List ℕ → List ℕ) → Maps (get_or rest 0 0) m → (get_or rest 0 0 ≡ 3) ⊎ (get_or rest 0 0 ≡ 4) → Way t rest (map_block m t rest)
  unfolding map_block
  map_block_way m e o =
      whole_all (Way t rest) 65 t rest (λ h. cut g (maps o refl) h)
      (λ h. judged_all (Way t rest) (map_refusal t (take 64 (drop 1 rest))) 65 t (λ k r. refused (suc k) (map_keeps t _ r) g (maps o refl) h) (λ z. mapped g e h z))

  mix_word_way : get_or rest 0 0 ≡ 5 → Way t rest (mix_word t rest)
  unfolding mix_word
  mix_word_way e = whole_all (Way t rest) 9 t rest (λ h. cut g (mixes e refl) h) (λ h. mixed g e h)

  command_way : Way t rest (command (get_or rest 0 0) t rest)
  unfolding command
  command_way =
      let c = get_or rest 0 0 in
      when_all (Way t rest) (eqb c 0) (λ e. closed g (eqb-true c 0 e)) (λ n₀.
      when_all (Way t rest) (eqb c 1) (λ e. set_key_way (eqb-true c 1 e)) (λ n₁.
      when_all (Way t rest) (eqb c 3) (λ e. map_block_way (E article) (enciphers (eqb-true c 3 e)) (inl (eqb-true c 3 e))) (λ n₃.
      when_all (Way t rest) (eqb c 4) (λ e. map_block_way (U article) (deciphers (eqb-true c 4 e)) (inr (eqb-true c 4 e))) (λ n₄.
      when_all (Way t rest) (eqb c 5) (λ e. mix_word_way (eqb-true c 5 e)) (λ n₅.
      unknown g
      (record { not0 = eqb-false c 0 n₀; not1 = eqb-false c 1 n₁; not3 = eqb-false c 3 n₃; not4 = eqb-false c 4 n₄; not5 = eqb-false c 5 n₅ }))))))

pub way_of : (t : Tape) (rest : List ℕ) → Way t rest (step t rest 65)
unfolding step
way_of t rest =
    when_all (Way t rest) t.ended over (λ e.
    when_all (Way t rest) (eqb (length rest) 0) (λ z. empty e (eqb-true (length rest) 0 z)) (λ z.
    let n : length rest ≡ 0 → ⊥ = eqb-false (length rest) 0 z in
    command_way t rest (record { on = e; some = omega arith })))
