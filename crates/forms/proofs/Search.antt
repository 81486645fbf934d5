-- Laws of searches: whether some element of a list passes a test, and where the first one stands.
-- Assumes nothing.
use mathlib.Core.Path.{◌≡◌, refl, sym, ap, ◌∙◌, subst}
use mathlib.Core.Bool.{Bool, true, false, ◌||◌, true≢false}
use mathlib.Core.List.{List, [], ◌∷◌, ◌++◌}
use mathlib.Core.Logic.{◌↔◌, ⊎_elim, inr}
use Prim.Native.Nat.{ℕ, zero, suc, ◌+◌, ◌-◌, ◌≤◌, ◌<◌}
use native.Mathlib.Nat.{le_of_suc-le-suc, eq-or-lt_of_le}
use native.Mathlib.Omega.{arith}
use borrow.Author.Tests.{ltb-true, ltb-false}
use lib.Dec.{ltb}
use lib.ListN.{length, get_or, drop, drop_of_length-le}
use lib.Seq.{drop-cons}
use Rattle.forms.specs.Lists.{any, first_from, last}
use Rattle.forms.proofs.Booleans.{by_test, true_or}

module _ {A : Type 0} (test : A → Bool) where
  -- ---- the first, one element at a time

  pub first_hit : (xs : List A) (d : A) (i : ℕ) → i < length xs → test (get_or xs i d) ≡ true → first_from test i (drop i xs) ≡ i
  unfolding first_from
  first_hit xs d i l e = ap (first_from test i) (drop-cons xs i d l) ∙ rw e

  pub first_miss : (xs : List A) (d : A) (i : ℕ) → i < length xs → test (get_or xs i d) ≡ false
      → first_from test i (drop i xs) ≡ first_from test (suc i) (drop (suc i) xs)
  unfolding first_from
  first_miss xs d i l e = ap (first_from test i) (drop-cons xs i d l) ∙ rw e

  pub first_end : (xs : List A) (i : ℕ) → length xs ≤ i → first_from test i (drop i xs) ≡ i
  unfolding first_from
  first_end xs i l = ap (first_from test i) (drop_of_length-le xs l)

  -- ---- the first, in plain terms

  -- p is the place of the first one from a place on, or the length if there is none
  pub record First (xs : List A) (d : A) (at p : ℕ) : Type 0 where
    pub from : at ≤ p
    pub within : p ≤ length xs
    pub none : (k : ℕ) → at ≤ k → k < p → test (get_or xs k d) ≡ false
    pub passes : p < length xs → test (get_or xs p d) ≡ true

  first_to : (xs : List A) (d : A) (at left : ℕ) → at + left ≡ length xs → First xs d at (first_from test at (drop at xs))
  first_to xs d at zero e =
      subst (First xs d at) (sym (first_end xs at (omega arith)))
      (record { from = omega arith; within = omega arith; none = λ k a b. let z : ⊥ = omega arith in absurd z; passes = λ l. let z : ⊥ = omega arith in absurd z })
  first_to xs d at (suc left) e = by_test (test (get_or xs at d)) hit (miss (first_to xs d (suc at) left (omega arith)))
    where
      l : at < length xs
      l = omega arith

      hit : test (get_or xs at d) ≡ true → First xs d at (first_from test at (drop at xs))
      hit t =
          subst (First xs d at) (sym (first_hit xs d at l t))
          (record { from = omega arith; within = omega arith; none = λ k a b. let z : ⊥ = omega arith in absurd z; passes = λ m. t })

      later : test (get_or xs at d) ≡ false → (p : ℕ) → First xs d (suc at) p → First xs d at p
      later t p f =
          let g = f.from in
          record {
            from = omega arith;
            within = f.within;
            none = λ k a b. ⊎_elim (λ (s : at ≡ k). ap (λ (i : ℕ). test (get_or xs i d)) (sym s) ∙ t) (λ (s : at < k). f.none k s b) (eq-or-lt_of_le a);
            passes = f.passes;
          }

      miss : First xs d (suc at) (first_from test (suc at) (drop (suc at) xs)) → test (get_or xs at d) ≡ false → First xs d at (first_from test at (drop at xs))
      miss f t = subst (First xs d at) (sym (first_miss xs d at l t)) (later t _ f)

  pub first_is : (xs : List A) (d : A) (at : ℕ) → at ≤ length xs → First xs d at (first_from test at (drop at xs))
  first_is xs d at l = first_to xs d at (length xs - at) (omega arith)

  -- there is one first place only
  pub first_once : (xs : List A) (d : A) (at p q : ℕ) → First xs d at p → First xs d at q → p ≡ q
  first_once xs d at p q f g = order (ltb p q) (ltb q p) refl refl
    where
      apart : (a b : ℕ) → First xs d at a → First xs d at b → a < b → ⊥
      apart a b u v l = let w = v.within in true≢false (sym (u.passes (omega arith)) ∙ v.none a u.from l)

      order : (s t : Bool) → ltb p q ≡ s → ltb q p ≡ t → p ≡ q
      order true t e h = absurd (apart p q f g (ltb-true p q e))
      order false true e h = absurd (apart q p g f (ltb-true q p h))
      order false false e h = let a = ltb-false p q e in let b = ltb-false q p h in omega arith

  -- ---- some

  pub any_some : (xs : List A) (d : A) (i : ℕ) → i < length xs → test (get_or xs i d) ≡ true → any test xs ≡ true
  unfolding any
  any_some [] d i l e = let z : ⊥ = omega arith in absurd z
  any_some (x ∷ xs) d zero l e = rw e
  any_some (x ∷ xs) d (suc i) l e = true_or (test x) (any test xs) (inr (any_some xs d i (le_of_suc-le-suc l) e))

  any_place : (xs : List A) (d : A) → any test xs ≡ true → (i : ℕ) × (i < length xs) × (test (get_or xs i d) ≡ true)
  unfolding any
  any_place [] d e = absurd (true≢false (sym e))
  any_place (x ∷ xs) d e = go (test x) refl e (λ f. any_place xs d f)
    where
      go : (b : Bool) → test x ≡ b → (b || any test xs) ≡ true → (any test xs ≡ true → (i : ℕ) × (i < length xs) × (test (get_or xs i d) ≡ true))
          → (i : ℕ) × (i < suc (length xs)) × (test (get_or (x ∷ xs) i d) ≡ true)
      go true t e later = (0, omega arith, t)
      go false t e later = let r = later e in (suc r.0, omega (arith, r.1), r.2)

  pub any_iff : (xs : List A) (d : A) → (any test xs ≡ true) ↔ ((i : ℕ) × (i < length xs) × (test (get_or xs i d) ≡ true))
  any_iff xs d = (any_place xs d, λ h. any_some xs d h.0 h.1 h.2)

  pub any_none : (xs : List A) (d : A) → any test xs ≡ false → (i : ℕ) → i < length xs → test (get_or xs i d) ≡ false
  any_none xs d e i l = by_test (test (get_or xs i d)) (λ t. absurd (true≢false (sym (any_some xs d i l t) ∙ e))) (λ t. t)

  -- some element passes exactly when the first that passes stands in the list
  pub any_first : (xs : List A) (d : A) → any test xs ≡ ltb (first_from test 0 xs) (length xs)
  any_first xs d = by_test (any test xs) some none
    where
      f : First xs d 0 (first_from test 0 xs)
      f = first_is xs d 0 (omega arith)

      some : any test xs ≡ true → any test xs ≡ ltb (first_from test 0 xs) (length xs)
      some e =
          e ∙ sym (by_test (ltb (first_from test 0 xs) (length xs)) (λ t. t)
          (λ t. let s = any_place xs d e in absurd (true≢false (sym s.2 ∙ f.none s.0 (omega arith) (let m = ltb-false (first_from test 0 xs) (length xs) t in omega (arith, s.1))))))

      none : any test xs ≡ false → any test xs ≡ ltb (first_from test 0 xs) (length xs)
      none e =
          e ∙ sym (by_test (ltb (first_from test 0 xs) (length xs))
          (λ t. let l = ltb-true (first_from test 0 xs) (length xs) t in absurd (true≢false (sym (f.passes l) ∙ any_none xs d e (first_from test 0 xs) l))) (λ t. t))

-- ---- the last

pub last_append : {A : Type 0} (d : A) (xs : List A) (x : A) (ys : List A) → last d (xs ++ (x ∷ ys)) ≡ last x ys
unfolding last
last_append d [] x ys = refl
last_append d (z ∷ xs) x ys = last_append z xs x ys
