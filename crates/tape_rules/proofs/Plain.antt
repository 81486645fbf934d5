-- A step goes as the plain terms say: each check in its order, with what it answers.
-- Assumes nothing.
use mathlib.Core.Path.{◌≡◌, refl, sym, ◌∙◌}
use mathlib.Core.Bool.{Bool, true, false, not, false≢true, true≢false}
use mathlib.Core.Logic.{inl, inr, ◌↔◌}
use mathlib.Core.List.{List, [], ◌∷◌}
use Prim.Native.Nat.{ℕ, suc, ◌*◌}
use native.Mathlib.Omega.{arith}
use borrow.Author.Tests.{not-true, not-false, eqb-true, eqb-false, ltb-true, ltb-false}
use lib.Dec.{eqb, ltb}
use lib.ListN.{length, get_or, take, drop}
use Rattle.forms.specs.Lists.{when}
use Rattle.forms.specs.Refusals.{unless, Unless}
use Rattle.labyrinth.specs.Cipher.{article}
use Rattle.labyrinth.specs.Keys.{E, U}
use Rattle.labyrinth.specs.Refusals.{legal, legal_length}
use Rattle.labyrinth.proofs.Refusals.{legal_iff, legal_length_iff}
use Rattle.operands.specs.Operands.{zeros}
use Rattle.tape_rules.specs.declared.Tape.{Tape}
use Rattle.tape_rules.specs.Steps.{Answer, whole, judged, key_refusal, set_key, map_refusal, map_block, mix_word, command, step}
use Rattle.tape_rules.specs.Plain.{WholeSays, KeySays, BlockSays, WordSays, CommandSays, StepSays}
use Rattle.tape_rules.proofs.Accepted.{unused_iff}

module _ (G : ℕ → ℕ → List ℕ → Tape → Type 0) (t : Tape) (rest : List ℕ) where
  -- it is said of an answer
  abbrev Of : Answer → Type 0
  Of a = G a.number a.taken a.written a.next

  when_says : {x y : Answer} {A : Type 0} (b : Bool) → Of (when b x y) → (b ≡ true → Of x → A) → (b ≡ false → Of y → A) → A
  when_says true g f h = f refl g
  when_says false g f h = h refl g

  whole_says : (w : ℕ) {a : Answer} {further : Type 0} → Of (whole w t rest a) → (Of a → further) → WholeSays G t rest w further
  whole_says w g f =
      when_says (ltb (length rest) w) g (λ e g. let h = ltb-true (length rest) w e in inl (λ k. omega arith, g)) (λ e g. inr (ltb-false (length rest) w e, f g))

  judged_says : {holds further : Type 0} (a : Answer) (b : Bool) (k r w : ℕ) → ((b ≡ true) ↔ holds) → Of (judged (unless b (suc k) r) w t a)
      → (Of (judged r w t a) → further) → Unless holds (G (suc k) w (suc k ∷ []) t) further
  judged_says a true k r w h g f = inr (h.0 refl, f g)
  judged_says a false k r w h g f = inl (λ c. false≢true (h.1 c), g)

  set_key_says : Of (set_key t rest) → WholeSays G t rest 131 (KeySays G t rest (get_or rest 1 0) (get_or rest 2 0))
  unfolding set_key key_refusal
  set_key_says g =
      let n = get_or rest 1 0 in
      let l = get_or rest 2 0 in
      whole_says 131 g (λ g.
      judged_says _ (legal n) 0 _ 131 (legal_iff n) g (λ g.
      judged_says _ (legal_length l) 1 _ 131 (legal_length_iff l) g (λ g.
      judged_says _ (zeros (drop (8 * (n * l)) (take 128 (drop 3 rest)))) 9 0 131 (unused_iff 3 (8 * (n * l)) 128 rest) g (λ g. g))))

  map_block_says : (map : ℕ → List ℕ → List ℕ → List ℕ) → Of (map_block map t rest) → WholeSays G t rest 65 (BlockSays G t rest map)
  unfolding map_block map_refusal
  map_block_says map g =
      let n = t.key.n in
      whole_says 65 g (λ g.
      judged_says _ t.keyed 8 _ 65 (λ e. e, λ e. e) g (λ g.
      judged_says _ (legal n) 0 _ 65 (legal_iff n) g (λ g.
      judged_says _ (zeros (drop (16 * n) (take 64 (drop 1 rest)))) 9 0 65 (unused_iff 1 (16 * n) 64 rest) g (λ g. g))))

  mix_word_says : Of (mix_word t rest) → WholeSays G t rest 9 (WordSays G t rest)
  unfolding mix_word
  mix_word_says g = whole_says 9 g (λ g. g)

  command_says : (c : ℕ) → Of (command c t rest) → CommandSays G t rest c
  unfolding command
  command_says c g =
      when_says (eqb c 0) g (λ e g. inr (inl (eqb-true c 0 e, g))) (λ n₀ g.
      when_says (eqb c 1) g (λ e g. inr (inr (inl (eqb-true c 1 e, set_key_says g)))) (λ n₁ g.
      when_says (eqb c 3) g (λ e g. inr (inr (inr (inl (eqb-true c 3 e, map_block_says (E article) g))))) (λ n₃ g.
      when_says (eqb c 4) g (λ e g. inr (inr (inr (inr (inl (eqb-true c 4 e, map_block_says (U article) g)))))) (λ n₄ g.
      when_says (eqb c 5) g (λ e g. inr (inr (inr (inr (inr (eqb-true c 5 e, mix_word_says g)))))) (λ n₅ g.
      inl ((eqb-false c 0 n₀, eqb-false c 1 n₁, eqb-false c 3 n₃, eqb-false c 4 n₄, eqb-false c 5 n₅), g))))))

  -- of whatever is said of a step's answer, the plain terms tell which answer it is
  pub step_says : (room : ℕ) → Of (step t rest room) → StepSays G t rest room
  unfolding step
  step_says room g =
      when_says (not (eqb room 65)) g (λ e g. inl (eqb-false room 65 (not-true (eqb room 65) e), g)) (λ e g.
      inr (
        eqb-true room 65 (not-false (eqb room 65) e),
        when_says t.ended g (λ e g. inl (λ n. true≢false (sym e ∙ n), g)) (λ e g.
            inr (
              e,
              when_says (eqb (length rest) 0) g (λ e g. let z = eqb-true (length rest) 0 e in inl (λ k. omega arith, g)) (λ e g.
                  let n : length rest ≡ 0 → ⊥ = eqb-false (length rest) 0 e in
                  inr (omega arith, command_says (get_or rest 0 0) g)),
            )),
      ))
