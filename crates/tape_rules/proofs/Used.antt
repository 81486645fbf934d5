-- A step's answers depend on the used words of the working key only.
-- Assumes nothing.
use mathlib.Core.Path.{◌≡◌, refl, ap, ap₂, ◌∙◌, subst}
use mathlib.Core.Bool.{Bool, true, false, not}
use mathlib.Core.List.{List, ◌∷◌}
use Prim.Native.Nat.{ℕ, zero, suc, ◌*◌}
use lib.Dec.{eqb, ltb}
use lib.ListN.{length, get_or, take, drop}
use Rattle.forms.specs.Lists.{when}
use Rattle.forms.specs.Refusals.{unless}
use Rattle.labyrinth.specs.Cipher.{article}
use Rattle.labyrinth.specs.Keys.{E, U}
use Rattle.labyrinth.specs.Refusals.{legal}
use Rattle.labyrinth.proofs.Agree.{SameUsed, E_used, U_used}
use Rattle.operands.specs.Operands.{zeros}
use Rattle.tape_rules.specs.declared.Tape.{Tape}
use Rattle.tape_rules.specs.Steps.{Answer, ended, answers, refuses, ends, whole, judged, key_refusal, set_key, map_refusal, map_block, mix_word, command, step}

-- two states with the same n, the same first 8n words and the same marks
pub record Alike (t u : Tape) : Type 0 where
  pub n : t.key.n ≡ u.key.n
  pub words : SameUsed t.key.n t.key.words u.key.words
  pub keyed : t.keyed ≡ u.keyed
  pub ended : t.ended ≡ u.ended

-- two answers with the same number, bytes taken and bytes written, and next states that are alike
pub record Same (a b : Answer) : Type 0 where
  pub number : a.number ≡ b.number
  pub taken : a.taken ≡ b.taken
  pub written : a.written ≡ b.written
  pub next : Alike a.next b.next

when_same : (b : Bool) {c : Bool} {w x y z : Answer} → b ≡ c → Same w y → Same x z → Same (when b w x) (when c y z)
when_same b {c} {w} {x} {y} {z} e p q = subst (λ (d : Bool). Same (when b w x) (when d y z)) e (either b)
  where
    either : (b : Bool) → Same (when b w x) (when b y z)
    either true = p
    either false = q

module _ (t u : Tape) (h : Alike t u) where
  ended_alike : Alike (ended t) (ended u)
  ended_alike = record { n = h.n; words = h.words; keyed = h.keyed; ended = refl }

  answers_same : (number taken : ℕ) {x y : List ℕ} → x ≡ y → Same (answers t number taken x) (answers u number taken y)
  answers_same number taken e = record { number = refl; taken = refl; written = ap (λ (z : List ℕ). number ∷ z) e; next = h }

  ends_same : (taken : ℕ) → Same (ends t taken) (ends u taken)
  ends_same taken = record { number = refl; taken = refl; written = refl; next = ended_alike }

  refuses_same : (number taken : ℕ) → Same (refuses (ended t) number taken) (refuses (ended u) number taken)
  refuses_same number taken = record { number = refl; taken = refl; written = refl; next = ended_alike }

  whole_same : (w : ℕ) (rest : List ℕ) {x y : Answer} → Same x y → Same (whole w t rest x) (whole w u rest y)
  whole_same w rest s = when_same (ltb (length rest) w) refl (refuses_same 8 (length rest)) s

  judged_same : (r w : ℕ) {s : ℕ} {x y : Answer} → r ≡ s → Same x y → Same (judged r w t x) (judged s w u y)
  judged_same r w {s} {x} {y} e p = subst (λ (k : ℕ). Same (judged r w t x) (judged k w u y)) e (either r)
    where
      either : (r : ℕ) → Same (judged r w t x) (judged r w u y)
      either zero = p
      either (suc k) = answers_same (suc k) w refl

  set_key_same : (rest : List ℕ) → Same (set_key t rest) (set_key u rest)
  unfolding set_key
  set_key_same rest =
      whole_same 131 rest
      (judged_same (key_refusal (get_or rest 1 0) (get_or rest 2 0) (take 128 (drop 3 rest))) 131 refl (record { number = refl; taken = refl; written = refl; next = record { n = refl; words = λ i k. refl; keyed = refl; ended = h.ended } }))

  number_same : (block : List ℕ) → map_refusal t block ≡ map_refusal u block
  unfolding map_refusal
  number_same block = ap₂ (λ (k : Bool) (n : ℕ). unless k 9 (unless (legal n) 1 (unless (zeros (drop (16 * n) block)) 10 0))) h.keyed h.n

  map_block_same : (m : ℕ → List ℕ → List ℕ → List ℕ) → ((n : ℕ) (ws vs : List ℕ) → SameUsed n ws vs → (b : List ℕ) → m n ws b ≡ m n vs b)
      → (rest : List ℕ) → Same (map_block m t rest) (map_block m u rest)
  unfolding map_block
  map_block_same m used rest =
      let block = take 64 (drop 1 rest) in
      whole_same 65 rest
      (judged_same (map_refusal t block) 65 (number_same block)
      (answers_same 0 65
      (used t.key.n t.key.words u.key.words h.words (take (16 * t.key.n) block)
      ∙ ap (λ (n : ℕ). m n u.key.words (take (16 * n) block)) h.n)))

  mix_word_same : (rest : List ℕ) → Same (mix_word t rest) (mix_word u rest)
  unfolding mix_word
  mix_word_same rest = whole_same 9 rest (answers_same 0 9 refl)

  command_same : (c : ℕ) (rest : List ℕ) → Same (command c t rest) (command c u rest)
  unfolding command
  command_same c rest =
      when_same (eqb c 0) refl (ends_same 1)
      (when_same (eqb c 1) refl (set_key_same rest)
      (when_same (eqb c 3) refl (map_block_same (E article) (E_used article) rest)
      (when_same (eqb c 4) refl (map_block_same (U article) (U_used article) rest)
      (when_same (eqb c 5) refl (mix_word_same rest) (refuses_same 7 1)))))

  -- states that are alike give the same answers
  pub step_used : (rest : List ℕ) (room : ℕ) → Same (step t rest room) (step u rest room)
  unfolding step
  step_used rest room =
      when_same (not (eqb room 65)) refl (record { number = refl; taken = refl; written = refl; next = h })
      (when_same t.ended h.ended (ends_same 0)
      (when_same (eqb (length rest) 0) refl (refuses_same 8 0) (command_same (get_or rest 0 0) rest)))
