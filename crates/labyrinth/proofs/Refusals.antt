-- What the refusals say in plain terms: which number when, in their order.
-- Assumes nothing.
use mathlib.Core.Path.{◌≡◌, refl, sym, ◌∙◌}
use mathlib.Core.Bool.{Bool, true, false}
use mathlib.Core.Logic.{⊎_elim, ◌↔◌}
use Prim.Native.Nat.{ℕ, ◌*◌, ◌≤◌}
use native.Mathlib.Omega.{arith}
use lib.Dec.{eqb}
use Rattle.forms.specs.Refusals.{unless, Unless}
use Rattle.forms.proofs.Refusals.{unless_zero, unless_plain, unless_three}
use Rattle.forms.proofs.Booleans.{eqb_iff, one_of}
use Rattle.labyrinth.specs.Working.{Size, Taken}
use Rattle.labyrinth.specs.Refusals.{legal, legal_length, Legal, LegalLength, block_refusal, expand_refusal, under_key, under_length}
use Rattle.labyrinth.proofs.Sizes.{size_one, size_two, size_four}

pub legal_iff : (n : ℕ) → (legal n ≡ true) ↔ Legal n
unfolding legal
legal_iff n = one_of 1 2 4 n

pub legal_length_iff : (l : ℕ) → (legal_length l ≡ true) ↔ LegalLength l
unfolding legal_length
legal_length_iff l = one_of 2 3 4 l

pub legal_size_of : (n : ℕ) → legal n ≡ true → Size n
legal_size_of n e = ⊎_elim (λ p. rw p size_one) (λ r. ⊎_elim (λ p. rw p size_two) (λ p. rw p size_four) r) ((legal_iff n).0 e)

pub legal_length_low : (l : ℕ) → legal_length l ≡ true → 2 ≤ l
legal_length_low l e = ⊎_elim (λ (p : l ≡ 2). omega arith) (λ r. ⊎_elim (λ (p : l ≡ 3). omega arith) (λ (p : l ≡ 4). omega arith) r) ((legal_length_iff l).0 e)

pub legal_length_top : (l : ℕ) → legal_length l ≡ true → l ≤ 4
legal_length_top l e = ⊎_elim (λ (p : l ≡ 2). omega arith) (λ r. ⊎_elim (λ (p : l ≡ 3). omega arith) (λ (p : l ≡ 4). omega arith) r) ((legal_length_iff l).0 e)

-- a block: 1 unless n is 1, 2 or 4, then 4 unless the source has 16n bytes, then 5 unless the destination has, else 0
pub block_number : (n s d : ℕ) {r : ℕ} → r ≡ block_refusal n s d → Unless (Legal n) (r ≡ 1) (Unless (s ≡ 16 * n) (r ≡ 4) (Unless (d ≡ 16 * n) (r ≡ 5) (r ≡ 0)))
unfolding block_refusal
block_number n s d e =
    unless_plain (legal n) 1 _ e (legal_iff n) (λ e.
    unless_plain (eqb s (16 * n)) 4 _ e (eqb_iff s (16 * n)) (λ e.
    unless_plain (eqb d (16 * n)) 5 _ e (eqb_iff d (16 * n)) (λ e. e)))

-- so it is taken exactly when all three hold
pub block_iff : (n s d : ℕ) → (block_refusal n s d ≡ 0) ↔ (Legal n × (s ≡ 16 * n) × (d ≡ 16 * n))
block_iff n s d = unless_three (block_number n s d refl)

-- a key: 1 unless n is 1, 2 or 4, then 2 unless l is 2, 3 or 4, then 3 unless the key has 8nl bytes, else 0
pub expand_number : (n l k : ℕ) {r : ℕ} → r ≡ expand_refusal n l k → Unless (Legal n) (r ≡ 1) (Unless (LegalLength l) (r ≡ 2) (Unless (k ≡ 8 * (n * l)) (r ≡ 3) (r ≡ 0)))
unfolding expand_refusal
expand_number n l k e =
    unless_plain (legal n) 1 _ e (legal_iff n) (λ e.
    unless_plain (legal_length l) 2 _ e (legal_length_iff l) (λ e.
    unless_plain (eqb k (8 * (n * l))) 3 _ e (eqb_iff k (8 * (n * l))) (λ e. e)))

pub expand_iff : (n l k : ℕ) → (expand_refusal n l k ≡ 0) ↔ (Legal n × LegalLength l × (k ≡ 8 * (n * l)))
expand_iff n l k = unless_three (expand_number n l k refl)

-- what a key that is taken has
pub key_taken : (n l k : ℕ) {r : ℕ} → r ≡ expand_refusal n l k → r ≡ 0 → Taken n l k
key_taken n l k p e =
    let h = (expand_iff n l k).0 (sym p ∙ e) in
    record {
      size = legal_size_of n ((legal_iff n).1 h.0);
      low = legal_length_low l ((legal_length_iff l).1 h.1);
      top = legal_length_top l ((legal_length_iff l).1 h.1);
      len = h.2;
    }

-- ---- a set that is loaded or isn't

-- under a working key: 1 unless n is 1, 2 or 4, then 15 unless the set is loaded, then what the operation says
pub under_number : {held further : Type 0} (n : ℕ) (loaded : Bool) (number : ℕ) {r : ℕ} → r ≡ under_key n loaded number → ((loaded ≡ true) ↔ held)
    → (r ≡ number → further) → Unless (Legal n) (r ≡ 1) (Unless held (r ≡ 15) further)
unfolding under_key
under_number n loaded number e h f = unless_plain (legal n) 1 _ e (legal_iff n) (λ e. unless_plain loaded 15 _ e h f)

-- expansion: the same after 2
pub under_length_number : {held further : Type 0} (n l : ℕ) (loaded : Bool) (number : ℕ) {r : ℕ} → r ≡ under_length n l loaded number → ((loaded ≡ true) ↔ held)
    → (r ≡ number → further) → Unless (Legal n) (r ≡ 1) (Unless (LegalLength l) (r ≡ 2) (Unless held (r ≡ 15) further))
unfolding under_length
under_length_number n l loaded number e h f =
    unless_plain (legal n) 1 _ e (legal_iff n) (λ e. unless_plain (legal_length l) 2 _ e (legal_length_iff l) (λ e. unless_plain loaded 15 _ e h f))

-- what is taken, the operation takes
pub under_zero : (n : ℕ) (loaded : Bool) (number : ℕ) → under_key n loaded number ≡ 0 → number ≡ 0
unfolding under_key
under_zero n loaded number e = (unless_zero loaded 14 number (unless_zero (legal n) 0 _ e).1).1

-- checks made beforehand, with 0 for the operation's number: a refusal is the operation's, and after none its number is its own
module _ (n : ℕ) (loaded : Bool) (number : ℕ) {r : ℕ} (e : r ≡ under_key n loaded 0) where
  pub under_refused : (r ≡ 0 → ⊥) → r ≡ under_key n loaded number
  unfolding under_key
  under_refused h = go (legal n) loaded e
    where
      go : (a b : Bool) → r ≡ unless a 1 (unless b 15 0) → r ≡ unless a 1 (unless b 15 number)
      go true true e = absurd (h e)
      go true false e = e
      go false b e = e

  pub under_taken : r ≡ 0 → (loaded ≡ true) × (under_key n loaded number ≡ number)
  unfolding under_key
  under_taken z = go (legal n) loaded (sym e ∙ z)
    where
      go : (a b : Bool) → unless a 1 (unless b 15 0) ≡ 0 → (b ≡ true) × (unless a 1 (unless b 15 number) ≡ number)
      go true true e = (refl, refl)
      go true false e = let x : ⊥ = omega arith in absurd x
      go false b e = let x : ⊥ = omega arith in absurd x

-- of a loaded set: where the operation itself says 1 for an illegal n, its number
pub under_loaded : (n : ℕ) (loaded : Bool) (number : ℕ) → (legal n ≡ false → number ≡ 1) → loaded ≡ true → under_key n loaded number ≡ number
unfolding under_key
under_loaded n loaded number h e = rw e (go (legal n) h)
  where
    go : (a : Bool) → (a ≡ false → number ≡ 1) → unless a 1 number ≡ number
    go true h = refl
    go false h = sym (h refl)

pub block_one : (n s d : ℕ) → legal n ≡ false → block_refusal n s d ≡ 1
unfolding block_refusal
block_one n s d e = rw e

-- the same of expansion
module _ (n l : ℕ) (loaded : Bool) (key : ℕ) where
  pub under_length_loaded : loaded ≡ true → under_length n l loaded (expand_refusal n l key) ≡ expand_refusal n l key
  unfolding under_length expand_refusal
  under_length_loaded e = rw e (go (legal n) (legal_length l) _)
    where
      go : (a b : Bool) (x : ℕ) → unless a 1 (unless b 2 (unless a 1 (unless b 2 x))) ≡ unless a 1 (unless b 2 x)
      go true true x = refl
      go true false x = refl
      go false b x = refl

  pub under_length_taken : {r : ℕ} → r ≡ under_length n l loaded (expand_refusal n l key) → r ≡ 0 → (loaded ≡ true) × (expand_refusal n l key ≡ 0)
  unfolding under_length
  under_length_taken e z = go (legal n) (legal_length l) loaded (expand_refusal n l key) (sym e ∙ z)
    where
      go : (a b c : Bool) (x : ℕ) → unless a 1 (unless b 2 (unless c 15 x)) ≡ 0 → (c ≡ true) × (x ≡ 0)
      go true true true x e = (refl, e)
      go true true false x e = let y : ⊥ = omega arith in absurd y
      go true false c x e = let y : ⊥ = omega arith in absurd y
      go false b c x e = let y : ⊥ = omega arith in absurd y
