-- Laws of `tabulate`, and of an array that a loop fills from the front.
-- Assumes nothing.
use mathlib.Core.Path.{◌≡◌, refl, sym, ap, ap₂, ◌∙◌}
use mathlib.Core.List.{List, [], ◌∷◌, ◌++◌, append_assoc, append-nil}
use Prim.Native.Nat.{ℕ, zero, suc, ◌+◌, ◌≤◌, ◌<◌}
use native.Mathlib.Nat.{le_of_suc-le-suc, suc-add, zero-add}
use native.Mathlib.Omega.{arith}
use native.Mathlib.Numerals.{add-one}
use lib.ListN.{get_or, set, length, take, drop, drop_of_length-le}
use lib.Seq.{ext_get_or, get_or-set_same, get_or-set_other, take_at, drop-cons, set_at, get_or_at, get_or-take, length-take-le}
use borrow.Author.Count.{below_more}
use Rattle.forms.specs.Lists.{tabulate}

module _ {A : Type 0} where
  pub length_tabulate : (n : ℕ) (f : ℕ → A) → length (tabulate n f) ≡ n
  unfolding tabulate
  length_tabulate zero f = refl
  length_tabulate (suc n) f = ap suc (length_tabulate n (λ k. f (suc k)))

  pub get_d_tabulate : (n : ℕ) (f : ℕ → A) (d : A) (k : ℕ) → k < n → get_or (tabulate n f) k d ≡ f k
  unfolding tabulate
  get_d_tabulate zero f d k h = let z : ⊥ = omega arith in absurd z
  get_d_tabulate (suc n) f d zero h = refl
  get_d_tabulate (suc n) f d (suc k) h = get_d_tabulate n (λ k. f (suc k)) d k (le_of_suc-le-suc h)

  pub tabulate_cong : (n : ℕ) (f g : ℕ → A) → ((k : ℕ) → k < n → f k ≡ g k) → tabulate n f ≡ tabulate n g
  unfolding tabulate
  tabulate_cong zero f g h = refl
  tabulate_cong (suc n) f g h = ap₂ ◌∷◌ (h 0 (omega arith)) (tabulate_cong n (λ k. f (suc k)) (λ k. g (suc k)) (λ k l. h (suc k) (omega arith)))

  -- a list is known by its length and its entries
  pub tabulated : (n : ℕ) (f : ℕ → A) (d : A) (xs : List A) → length xs ≡ n → ((k : ℕ) → k < n → get_or xs k d ≡ f k) → xs ≡ tabulate n f
  tabulated n f d xs e h =
      ext_get_or d xs (tabulate n f) (e ∙ sym (length_tabulate n f)) (λ k l. let l' : k < n = omega arith in h k l' ∙ sym (get_d_tabulate n f d k l'))

  -- one entry more, as a loop stores it
  pub get_or_filled : (F : ℕ → A) (d : A) (xs : List A) (i : ℕ) (v : A) → i < length xs → v ≡ F i → ((k : ℕ) → k < i → get_or xs k d ≡ F k)
      → (k : ℕ) → k < i + 1 → get_or (set xs i v) k d ≡ F k
  get_or_filled F d xs i v h e all =
      below_more (λ k. get_or (set xs i v) k d ≡ F k) i
      (λ k l. get_or-set_other xs i k v d (λ (p : k ≡ i). let z : ⊥ = omega arith in z) ∙ all k l)
      (get_or-set_same xs i v d h ∙ e)

-- ---- tabulate in two parts

pub tabulate_add : (m k : ℕ) (f : ℕ → ℕ) → tabulate (m + k) f ≡ tabulate m f ++ tabulate k (λ i. f (m + i))
unfolding tabulate
tabulate_add zero k f = simp zero-add
tabulate_add (suc m) k f = simp suc-add (ap (λ (x : List ℕ). f 0 ∷ x) (tabulate_add m k (λ i. f (suc i))))

-- ---- an array whose first entries a loop replaces

pub tabulate_snoc : (n : ℕ) (f : ℕ → ℕ) → tabulate (suc n) f ≡ tabulate n f ++ (f n ∷ [])
unfolding tabulate
tabulate_snoc zero f = refl
tabulate_snoc (suc n) f = ap (λ (l : List ℕ). f 0 ∷ l) (tabulate_snoc n (λ k. f (suc k)))

pub take_tabulate : (n : ℕ) (xs : List ℕ) → n ≤ length xs → take n xs ≡ tabulate n (λ i. get_or xs i 0)
take_tabulate n xs h = tabulated n (λ i. get_or xs i 0) 0 (take n xs) (length-take-le n xs h) (λ k l. get_or-take n xs k 0 l)

-- xs is old, but for the first j words, which are f's
pub record Replaced (f : ℕ → ℕ) (old : List ℕ) (j : ℕ) (xs : List ℕ) : Type 0 where
  pub is : xs ≡ tabulate j f ++ drop j old

module _ (f : ℕ → ℕ) (old : List ℕ) where
  pub replaced_none : Replaced f old 0 old
  unfolding tabulate
  replaced_none = record { is = refl }

  -- the words to come are old
  pub replaced_at : (j : ℕ) {xs : List ℕ} → j < length old → Replaced f old j xs → get_or xs j 0 ≡ get_or old j 0
  replaced_at j h p =
      ap (λ (l : List ℕ). get_or l j 0) (p.is ∙ ap (λ (l : List ℕ). tabulate j f ++ l) (drop-cons old j 0 h))
      ∙ get_or_at (tabulate j f) (get_or old j 0) (drop (suc j) old) 0 j (length_tabulate j f)

  pub replaced_more : (j : ℕ) {xs : List ℕ} {v : ℕ} → j < length old → v ≡ f j → Replaced f old j xs → Replaced f old (j + 1) (set xs j v)
  replaced_more j {xs} {v} h e p = record {
    is =
        ap (λ (l : List ℕ). set l j v) (p.is ∙ ap (λ (l : List ℕ). tabulate j f ++ l) (drop-cons old j 0 h))
        ∙ set_at (tabulate j f) (get_or old j 0) (drop (suc j) old) v j (length_tabulate j f)
        ∙ ap (λ (x : ℕ). tabulate j f ++ (x ∷ drop (suc j) old)) e
        ∙ sym (append_assoc (tabulate j f) (f j ∷ []) (drop (suc j) old))
        ∙ ap (λ (l : List ℕ). l ++ drop (suc j) old) (sym (tabulate_snoc j f))
        ∙ ap (λ (k : ℕ). tabulate k f ++ drop k old) (sym (add-one j));
  }

  pub replaced_end : {j n : ℕ} {xs : List ℕ} → j ≡ n → Replaced f old j xs → xs ≡ tabulate n f ++ drop n old
  replaced_end e p = p.is ∙ ap (λ (k : ℕ). tabulate k f ++ drop k old) e

  pub replaced_front : {j n : ℕ} {xs : List ℕ} → j ≡ n → Replaced f old j xs → take n xs ≡ tabulate n f
  replaced_front {j} {n} e p = ap (take n) (replaced_end e p) ∙ take_at (tabulate n f) (drop n old) n (length_tabulate n f)

  -- all of it
  pub replaced_all : {j n : ℕ} {xs : List ℕ} → j ≡ n → length old ≡ n → Replaced f old j xs → xs ≡ tabulate n f
  replaced_all {j} {n} e l p =
      replaced_end e p ∙ ap (λ (x : List ℕ). tabulate n f ++ x) (drop_of_length-le old {i = n} (omega arith)) ∙ append-nil (tabulate n f)
