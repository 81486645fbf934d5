-- Which rule of the definition applies, as the code tests it.
-- Assumes nothing.
use mathlib.Core.Path.{◌≡◌, refl, sym, ap, ap₂, ◌∙◌}
use mathlib.Core.Bool.{Bool, true, false, false≢true}
use mathlib.Core.List.{List, [], ◌∷◌, ◌++◌}
use Prim.Native.Nat.{ℕ, zero, suc, ◌+◌, ◌-◌, ◌*◌, ◌≤◌, ◌<◌}
use native.Mathlib.Omega.{arith}
use borrow.Author.Tests.{eq-eqb, ne_eqb, lt-ltb, le-ltb}
use lib.Dec.{eqb}
use lib.ListN.{length, get_or, take, drop, set, length-take, length-drop}
use lib.Seq.{take_all, take-take, set_split, drop-drop}
use Rattle.forms.specs.Words.{words, bytes}
use Rattle.forms.specs.Refusals.{unless, outcome}
use Rattle.forms.specs.Lists.{over}
use Rattle.forms.proofs.Refusals.{unless_zero}
use Rattle.field.specs.Mixing.{mix}
use Rattle.field.specs.Published.{row}
use Rattle.labyrinth.specs.declared.Expanded.{Expanded}
use Rattle.labyrinth.specs.Blocks.{each}
use Rattle.labyrinth.specs.Cipher.{article}
use Rattle.labyrinth.specs.Keys.{E, U}
use Rattle.labyrinth.specs.Refusals.{legal, legal_length, block_refusal, expand_refusal, expansion}
use Rattle.labyrinth.specs.Working.{Size}
use Rattle.labyrinth.proofs.Refusals.{legal_iff, legal_length_iff, legal_size_of, legal_length_top, block_iff, expand_iff}
use Rattle.labyrinth.proofs.Sizes.{legal_size}
use Rattle.labyrinth.proofs.Expansion.{product}
use Rattle.operands.specs.Operands.{zeros}
use Rattle.tape_rules.specs.declared.Tape.{Tape}
use Rattle.tape_rules.specs.declared.Stepped.{Stepped}
use Rattle.tape_rules.specs.Steps.{Answer, ended, with_key, answers, refuses, ends, judged, at_end, key_refusal, set_key, map_refusal, map_block, mix_word, command, misfits, step, returned}

-- what the code gives, by what the definition comes to
pub gives : {a b : Answer} {r : Stepped} {new : List ℕ} (old : List ℕ) → a ≡ b → (r ≡ returned b) × (new ≡ over b.written old)
    → (r ≡ returned a) × (new ≡ over a.written old)
gives old e h = (h.0 ∙ ap (λ (x : Answer). returned x) (sym e), h.1 ∙ ap (λ (x : Answer). over x.written old) (sym e))

-- ---- the answer buffer

pub number_set : (old : List ℕ) (v : ℕ) → 0 < length old → set old 0 v ≡ over (v ∷ []) old
number_set old v h = set_split old 0 v h

-- 0 is set at its front, and then a part behind it comes back as ys
pub bytes_set : (old ys : List ℕ) (e : ℕ) → e ≡ 1 + length ys → 0 < length old
    → take 1 (set old 0 0) ++ (ys ++ drop (e - 1) (drop 1 (set old 0 0))) ≡ over (0 ∷ ys) old
bytes_set old ys e l h =
    let q : 1 + (e - 1) ≡ suc (length ys) = omega arith in
    ap (λ (x : List ℕ). take 1 x ++ (ys ++ drop (e - 1) (drop 1 x))) (set_split old 0 0 h)
    ∙ ap (λ (x : List ℕ). 0 ∷ (ys ++ x)) (drop-drop (e - 1) 1 old ∙ ap (λ (k : ℕ). drop k old) q)

-- a part from a place to the end
pub from_on : (xs : List ℕ) (at : ℕ) → take (length xs - at) (drop at xs) ≡ drop at xs
from_on xs at = take_all (length xs - at) (drop at xs) (omega (arith, length-drop at xs))

-- ---- a command by its number

judged_refused : (w : ℕ) (t : Tape) (a : Answer) {r s : ℕ} → r ≡ s → (r ≡ 0 → ⊥) → judged s w t a ≡ refuses t r w
judged_refused w t a {r} e h = ap (λ (x : ℕ). judged x w t a) (sym e) ∙ turned r h
  where
    turned : (r : ℕ) → (r ≡ 0 → ⊥) → judged r w t a ≡ refuses t r w
    turned zero h = absurd (h refl)
    turned (suc r) h = refl

judged_done : (w : ℕ) (t : Tape) (a : Answer) {r s : ℕ} → r ≡ s → r ≡ 0 → judged s w t a ≡ a
judged_done w t a e z = ap (λ (x : ℕ). judged x w t a) (sym e ∙ z)

-- ---- 01

-- what an 01 that is not refused has
pub record Key_taken (n l : ℕ) : Type 0 where
  pub size : legal n ≡ true
  pub halves : legal_length l ≡ true
  pub used : 8 * (n * l) ≤ 128

key_small : (n l : ℕ) → legal n ≡ true → legal_length l ≡ true → 8 * (n * l) ≤ 128
key_small n l p q = omega (arith, product n (legal_size_of n p) l (legal_length_top l q))

pub key_taken : (n l : ℕ) (key : List ℕ) {r : ℕ} → r ≡ key_refusal n l key → r ≡ 0 → Key_taken n l
unfolding key_refusal
key_taken n l key p e =
    let a = unless_zero (legal n) 0 _ (sym p ∙ e) in
    let b = unless_zero (legal_length l) 1 _ a.1 in
    record { size = a.0; halves = b.0; used = key_small n l a.0 b.0 }

-- 1 and 2 are those of expansion
module _ (n l : ℕ) (key : List ℕ) {r : ℕ} (e : r ≡ expand_refusal n l (8 * (n * l))) where
  first_two : (a b c d : Bool) → d ≡ true → (unless a 1 (unless b 2 (unless d 3 0)) ≡ 0 → ⊥)
      → unless a 1 (unless b 2 (unless d 3 0)) ≡ unless a 1 (unless b 2 (unless c 10 0))
  first_two false b c d p h = refl
  first_two true false c d p h = refl
  first_two true true c true p h = absurd (h refl)
  first_two true true c false p h = absurd (false≢true p)

  pub key_refused : (r ≡ 0 → ⊥) → r ≡ key_refusal n l key
  unfolding key_refusal expand_refusal
  key_refused h =
      e ∙ first_two (legal n) (legal_length l) (zeros (drop (8 * (n * l)) key)) (eqb (8 * (n * l)) (8 * (n * l))) (eq-eqb (8 * (n * l)) (8 * (n * l)) refl) (λ z. h (e ∙ z))

  pub key_passed : r ≡ 0 → Key_taken n l
  key_passed z =
      let h = (expand_iff n l (8 * (n * l))).0 (sym e ∙ z) in
      let p = (legal_iff n).1 h.0 in
      let q = (legal_length_iff l).1 h.1 in
      record { size = p; halves = q; used = key_small n l p q }

pub key_unused : (n l : ℕ) (key : List ℕ) → Key_taken n l → zeros (drop (8 * (n * l)) key) ≡ false → 10 ≡ key_refusal n l key
unfolding key_refusal
key_unused n l key k z = rw (k.size, k.halves, z)

pub key_good : (n l : ℕ) (key : List ℕ) → Key_taken n l → zeros (drop (8 * (n * l)) key) ≡ true → 0 ≡ key_refusal n l key
unfolding key_refusal
key_good n l key k z = rw (k.size, k.halves, z)

module _ (t : Tape) (rest : List ℕ) where
  pub set_key_short : length rest < 131 → set_key t rest ≡ refuses (ended t) 8 (length rest)
  unfolding set_key
  set_key_short h = rw (lt-ltb (length rest) 131 h)

  module _ {n l r : ℕ} (long : 131 ≤ length rest) (en : n ≡ get_or rest 1 0) (el : l ≡ get_or rest 2 0) (e : r ≡ key_refusal n l (take 128 (drop 3 rest))) where
    same_number : r ≡ key_refusal (get_or rest 1 0) (get_or rest 2 0) (take 128 (drop 3 rest))
    same_number = e ∙ ap₂ (λ (a b : ℕ). key_refusal a b (take 128 (drop 3 rest))) en el

    pub set_key_refused : (r ≡ 0 → ⊥) → set_key t rest ≡ refuses t r 131
    unfolding set_key
    set_key_refused h = rw (le-ltb (length rest) 131 long) (judged_refused 131 t _ same_number h)

    -- the working key is the one that expansion gives
    pub set_key_done : {x : Expanded} → r ≡ 0
        → x ≡ expansion article.SM 0 n l (take (3 + 8 * (n * l) - 3) (drop 3 rest)) (expand_refusal n l (length (take (3 + 8 * (n * l) - 3) (drop 3 rest))))
        → set_key t rest ≡ answers (with_key x.key t) 0 131 []
    unfolding set_key
    set_key_done {x} z q =
        rw (le-ltb (length rest) 131 long)
        (judged_done 131 t _ same_number z
        ∙ ap₂ (λ (a b : ℕ). answers (with_key (expansion article.SM 0 a b (take (8 * (a * b)) (take 128 (drop 3 rest))) 0).key t) 0 131 []) (sym en) (sym el)
        ∙ ap (λ (y : Expanded). answers (with_key y.key t) 0 131 []) (sym made))
      where
        k : Key_taken n l
        k = key_taken n l (take 128 (drop 3 rest)) e z

        used : take (3 + 8 * (n * l) - 3) (drop 3 rest) ≡ take (8 * (n * l)) (take 128 (drop 3 rest))
        used =
            let m = k.used in
            let i : 3 + 8 * (n * l) - 3 ≡ 8 * (n * l) = omega arith in
            ap (λ (u : ℕ). take u (drop 3 rest)) i ∙ sym (take-take (8 * (n * l)) 128 (drop 3 rest) m)

        long_enough : length (take (3 + 8 * (n * l) - 3) (drop 3 rest)) ≡ 8 * (n * l)
        long_enough =
            let m = k.used in
            length-take (3 + 8 * (n * l) - 3) (drop 3 rest) ∙ omega (arith, length-drop 3 rest)

        made : x ≡ expansion article.SM 0 n l (take (8 * (n * l)) (take 128 (drop 3 rest))) 0
        made =
            q ∙ ap₂ (λ (y : List ℕ) (u : ℕ). expansion article.SM 0 n l y u) used
            ((expand_iff n l _).1 ((legal_iff n).0 k.size, (legal_length_iff l).0 k.halves, long_enough))

-- ---- 03 and 04

module _ (t : Tape) (block : List ℕ) where
  pub map_unset : t.keyed ≡ false → 9 ≡ map_refusal t block
  unfolding map_refusal
  map_unset e = rw e

  pub map_illegal : t.keyed ≡ true → legal t.key.n ≡ false → 1 ≡ map_refusal t block
  unfolding map_refusal
  map_illegal e p = rw (e, p)

  pub map_unused : t.keyed ≡ true → legal t.key.n ≡ true → zeros (drop (16 * t.key.n) block) ≡ false → 10 ≡ map_refusal t block
  unfolding map_refusal
  map_unused e p z = rw (e, p, z)

  pub map_good : t.keyed ≡ true → legal t.key.n ≡ true → zeros (drop (16 * t.key.n) block) ≡ true → 0 ≡ map_refusal t block
  unfolding map_refusal
  map_good e p z = rw (e, p, z)

  pub map_size : {r : ℕ} → r ≡ map_refusal t block → r ≡ 0 → Size t.key.n
  unfolding map_refusal
  map_size p e =
      let a = unless_zero t.keyed 8 _ (sym p ∙ e) in
      legal_size_of t.key.n (unless_zero (legal t.key.n) 0 _ a.1).0

-- a block that is taken comes out as the map gives it
pub map_used : (n : ℕ) (src old : List ℕ) {r : ℕ} {new out : List ℕ} → Size n → length src ≡ 16 * n → length old ≡ 16 * n
    → r ≡ block_refusal n (length src) (length old) → new ≡ outcome r out old → new ≡ out
map_used n src old {out = out} s p q e o =
    o ∙ ap (λ (x : ℕ). outcome x out old) (e ∙ (block_iff n (length src) (length old)).1 ((legal_iff n).0 (legal_size n s), p, q))

module _ (m : ℕ → List ℕ → List ℕ → List ℕ) (t : Tape) (rest : List ℕ) where
  pub map_block_short : length rest < 65 → map_block m t rest ≡ refuses (ended t) 8 (length rest)
  unfolding map_block
  map_block_short h = rw (lt-ltb (length rest) 65 h)

  module _ {r : ℕ} (long : 65 ≤ length rest) (e : r ≡ map_refusal t (take 64 (drop 1 rest))) where
    pub map_block_refused : (r ≡ 0 → ⊥) → map_block m t rest ≡ refuses t r 65
    unfolding map_block
    map_block_refused h = rw (le-ltb (length rest) 65 long) (judged_refused 65 t _ e h)

    pub map_block_done : {ys : List ℕ} → r ≡ 0 → ys ≡ m t.key.n t.key.words (take (1 + 16 * t.key.n - 1) (drop 1 rest)) → map_block m t rest ≡ answers t 0 65 ys
    unfolding map_block
    map_block_done {ys} z q =
        rw (le-ltb (length rest) 65 long)
        (judged_done 65 t _ e z ∙ ap (λ (y : List ℕ). answers t 0 65 y) (ap (m t.key.n t.key.words) used ∙ sym q))
      where
        used : take (16 * t.key.n) (take 64 (drop 1 rest)) ≡ take (1 + 16 * t.key.n - 1) (drop 1 rest)
        used =
            let s = (map_size t (take 64 (drop 1 rest)) e z).top in
            let i : 16 * t.key.n ≡ 1 + 16 * t.key.n - 1 = omega arith in
            take-take (16 * t.key.n) 64 (drop 1 rest) (omega arith) ∙ ap (λ (u : ℕ). take u (drop 1 rest)) i

-- ---- 05

module _ (t : Tape) (rest : List ℕ) where
  pub mix_word_short : length rest < 9 → mix_word t rest ≡ refuses (ended t) 8 (length rest)
  unfolding mix_word
  mix_word_short h = rw (lt-ltb (length rest) 9 h)

  pub mix_word_done : {ys : List ℕ} → 9 ≤ length rest → ys ≡ bytes 1 (each 1 (mix row) (words 1 (take 8 (drop 1 rest)))) → mix_word t rest ≡ answers t 0 9 ys
  unfolding mix_word
  mix_word_done long q = rw (le-ltb (length rest) 9 long) (ap (λ (y : List ℕ). answers t 0 9 y) (sym q))

-- ---- a step

module _ (t : Tape) (rest : List ℕ) {c : ℕ} where
  pub command_other : (c ≡ 0 → ⊥) → (c ≡ 1 → ⊥) → (c ≡ 3 → ⊥) → (c ≡ 4 → ⊥) → (c ≡ 5 → ⊥) → command c t rest ≡ refuses (ended t) 7 1
  unfolding command
  command_other n₀ n₁ n₃ n₄ n₅ = rw (ne_eqb c 0 n₀, ne_eqb c 1 n₁, ne_eqb c 3 n₃, ne_eqb c 4 n₄, ne_eqb c 5 n₅)

  pub command_0 : c ≡ 0 → command c t rest ≡ ends t 1
  unfolding command
  command_0 e = rw e

  pub command_1 : c ≡ 1 → command c t rest ≡ set_key t rest
  unfolding command
  command_1 e = rw e

  pub command_3 : c ≡ 3 → command c t rest ≡ map_block (E article) t rest
  unfolding command
  command_3 e = rw e

  pub command_4 : c ≡ 4 → command c t rest ≡ map_block (U article) t rest
  unfolding command
  command_4 e = rw e

  pub command_5 : c ≡ 5 → command c t rest ≡ mix_word t rest
  unfolding command
  command_5 e = rw e

module _ (t : Tape) (rest : List ℕ) (room : ℕ) where
  pub step_room : (room ≡ 65 → ⊥) → step t rest room ≡ misfits t
  unfolding step
  step_room h = rw (ne_eqb room 65 h)

  module _ (r : room ≡ 65) where
    pub step_ended : t.ended ≡ true → step t rest room ≡ ends t 0
    unfolding step
    step_ended e = rw (eq-eqb room 65 r, e)

    pub step_empty : t.ended ≡ false → length rest ≡ 0 → step t rest room ≡ at_end t
    unfolding step
    step_empty e z = rw (eq-eqb room 65 r, e, eq-eqb (length rest) 0 z)

    pub step_command : t.ended ≡ false → (length rest ≡ 0 → ⊥) → step t rest room ≡ command (get_or rest 0 0) t rest
    unfolding step
    step_command e z = rw (eq-eqb room 65 r, e, ne_eqb (length rest) 0 z)
