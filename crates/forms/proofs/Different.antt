-- Laws of lists in which no number stands twice: `has`, `distinct` and `below` in plain terms, and that n different numbers below n are all of them.
-- Assumes nothing.
use mathlib.Core.Path.{◌≡◌, refl, sym, ap, ◌∙◌}
use mathlib.Core.List.{List, [], ◌∷◌, ◌++◌}
use mathlib.Core.Bool.{Bool, true, false, not, false≢true, ◌||◌}
use mathlib.Core.Logic.{◌⊎◌, inl, inr, ⊎_map, ◌↔◌}
use Prim.Native.Nat.{ℕ, zero, suc, ◌<◌, ◌≤◌}
use native.Mathlib.Omega.{arith}
use borrow.Author.Tests.{eqb-true, eqb-false, eq-eqb, ltb-true, lt-ltb, not-true}
use lib.Dec.{eqb, ltb}
use lib.ListN.{length, get_or}
use Rattle.forms.specs.Lists.{has, distinct, below}
use Rattle.forms.proofs.Booleans.{or_true, true_or, and_both, or_neither, false_unless}

-- ---- in plain terms

pub has_at : (s : List ℕ) (j : ℕ) → j < length s → has (get_or s j 0) s ≡ true
unfolding has
has_at [] j h = let z : ⊥ = omega arith in absurd z
has_at (x ∷ s) zero h = rw (eq-eqb x x refl)
has_at (x ∷ s) (suc j) h = true_or (eqb x (get_or s j 0)) (has (get_or s j 0) s) (inr (has_at s j (omega arith)))

-- where y stands
pub has_place : (y : ℕ) (s : List ℕ) → has y s ≡ true → (j : ℕ) × (j < length s) × (get_or s j 0 ≡ y)
unfolding has
has_place y [] e = absurd (false≢true e)
has_place y (x ∷ s) e = go (eqb x y) refl e (λ f. has_place y s f)
  where
    go : (b : Bool) → eqb x y ≡ b → (b || has y s) ≡ true → (has y s ≡ true → (j : ℕ) × (j < length s) × (get_or s j 0 ≡ y)) → (j : ℕ) × (j < suc (length s)) × (get_or (x ∷ s) j 0 ≡ y)
    go true p e ih = (0, omega arith, eqb-true x y p)
    go false p e ih = let r = ih e in (suc r.0, omega (arith, r.1), r.2)

-- one number at a time
pub has_none : (y : ℕ) → has y [] ≡ true → ⊥
unfolding has
has_none y e = false≢true e

pub has_cases : (y x : ℕ) (s : List ℕ) → has y (x ∷ s) ≡ true → (x ≡ y) ⊎ (has y s ≡ true)
unfolding has
has_cases y x s e = ⊎_map (eqb-true x y) (λ t. t) (or_true (eqb x y) (has y s) e)

pub has_here : (x : ℕ) (s : List ℕ) → has x (x ∷ s) ≡ true
unfolding has
has_here x s = true_or (eqb x x) (has x s) (inl (eq-eqb x x refl))

pub has_later : (y x : ℕ) (s : List ℕ) → has y s ≡ true → has y (x ∷ s) ≡ true
unfolding has
has_later y x s e = true_or (eqb x y) (has y s) (inr e)

pub has_behind : (y : ℕ) (s t : List ℕ) → has y t ≡ true → has y (s ++ t) ≡ true
has_behind y [] t e = e
has_behind y (x ∷ s) t e = has_later y x (s ++ t) (has_behind y s t e)

pub below_iff : (n : ℕ) (s : List ℕ) → (below n s ≡ true) ↔ ((j : ℕ) → j < length s → get_or s j 0 < n)
unfolding below
below_iff n s = (there s, back s)
  where
    there : (s : List ℕ) → below n s ≡ true → (j : ℕ) → j < length s → get_or s j 0 < n
    there [] e j h = let z : ⊥ = omega arith in absurd z
    there (x ∷ s) e zero h = ltb-true x n (and_both (ltb x n) (below n s) e).0
    there (x ∷ s) e (suc j) h = there s (and_both (ltb x n) (below n s) e).1 j (omega arith)

    back : (s : List ℕ) → ((j : ℕ) → j < length s → get_or s j 0 < n) → below n s ≡ true
    back [] h = refl
    back (x ∷ s) h = rw (lt-ltb x n (h 0 (omega arith))) (back s (λ j l. h (suc j) (omega arith)))

-- two places hold two numbers
abbrev pub OneToOne : List ℕ → Type 0
OneToOne s = (i j : ℕ) → i < length s → j < length s → get_or s i 0 ≡ get_or s j 0 → i ≡ j

pub distinct_iff : (s : List ℕ) → (distinct s ≡ true) ↔ OneToOne s
unfolding distinct
distinct_iff s = (there s, back s)
  where
    there : (s : List ℕ) → distinct s ≡ true → OneToOne s
    there [] d i j h k e = let z : ⊥ = omega arith in absurd z
    there (x ∷ s) d zero zero h k e = refl
    there (x ∷ s) d zero (suc j) h k e =
        absurd (false≢true (sym (not-true _ (and_both (not (has x s)) (distinct s) d).0) ∙ ap (λ (y : ℕ). has y s) e ∙ has_at s j (omega arith)))
    there (x ∷ s) d (suc i) zero h k e =
        absurd (false≢true (sym (not-true _ (and_both (not (has x s)) (distinct s) d).0) ∙ ap (λ (y : ℕ). has y s) (sym e) ∙ has_at s i (omega arith)))
    there (x ∷ s) d (suc i) (suc j) h k e = ap suc (there s (and_both (not (has x s)) (distinct s) d).1 i j (omega arith) (omega arith) e)

    back : (s : List ℕ) → OneToOne s → distinct s ≡ true
    back [] h = refl
    back (x ∷ s) h =
        rw (false_unless (has x s) (λ e. let r = has_place x s e in let z = h 0 (suc r.0) (omega arith) (omega (arith, r.1)) (sym r.2) in omega arith))
        (back s (λ i j l m e. let z = h (suc i) (suc j) (omega arith) (omega arith) e in omega arith))

-- ---- n different numbers below n are all numbers below n

-- the list without the first x
pick : Bool → ℕ → List ℕ → List ℕ → List ℕ
pick true y s r = s
pick false y s r = y ∷ r

without : ℕ → List ℕ → List ℕ
without x [] = []
without x (y ∷ s) = pick (eqb y x) y s (without x s)

length_without : (x : ℕ) (s : List ℕ) → length s ≤ suc (length (without x s))
unfolding without pick
length_without x [] = omega arith
length_without x (y ∷ s) = go (eqb y x) (length_without x s)
  where
    go : (b : Bool) → length s ≤ suc (length (without x s)) → suc (length s) ≤ suc (length (pick b y s (without x s)))
    go true ih = omega arith
    go false ih = omega arith

-- what does not stand in the whole does not stand in what is left
has_without : (z x : ℕ) (s : List ℕ) → has z s ≡ false → has z (without x s) ≡ false
unfolding has without pick
has_without z x [] e = refl
has_without z x (y ∷ s) e = go (eqb y x) (or_neither (eqb y z) (has z s) e) (has_without z x s)
  where
    go : (b : Bool) → (eqb y z ≡ false) × (has z s ≡ false) → (has z s ≡ false → has z (without x s) ≡ false) → has z (pick b y s (without x s)) ≡ false
    go true h ih = h.1
    go false h ih = rw h.0 (ih h.1)

distinct_without : (x : ℕ) (s : List ℕ) → distinct s ≡ true → distinct (without x s) ≡ true
unfolding distinct without pick
distinct_without x [] e = refl
distinct_without x (y ∷ s) e = go (eqb y x) (and_both (not (has y s)) (distinct s) e) (distinct_without x s)
  where
    go : (b : Bool) → (not (has y s) ≡ true) × (distinct s ≡ true) → (distinct s ≡ true → distinct (without x s) ≡ true) → distinct (pick b y s (without x s)) ≡ true
    go true h ih = h.1
    go false h ih = rw (has_without y x s (not-true _ h.0)) (ih h.1)

strict : (y n : ℕ) → y < suc n → (y ≡ n → ⊥) → y < n
strict y n q p = omega arith

-- below n + 1 and without n is below n
below_less : (n : ℕ) (s : List ℕ) → has n s ≡ false → below (suc n) s ≡ true → below n s ≡ true
unfolding has below
below_less n [] h e = refl
below_less n (y ∷ s) h e =
    let k = or_neither (eqb y n) (has n s) h in
    let m = and_both (ltb y (suc n)) (below (suc n) s) e in
    rw (lt-ltb y n (strict y n (ltb-true y (suc n) m.0) (eqb-false y n k.0))) (below_less n s k.1 m.1)

below_without : (n : ℕ) (s : List ℕ) → distinct s ≡ true → below (suc n) s ≡ true → below n (without n s) ≡ true
unfolding distinct below without pick
below_without n [] d e = refl
below_without n (y ∷ s) d e =
    go (eqb y n) refl (and_both (not (has y s)) (distinct s) d) (and_both (ltb y (suc n)) (below (suc n) s) e) (below_without n s)
  where
    go : (b : Bool) → eqb y n ≡ b → (not (has y s) ≡ true) × (distinct s ≡ true) → (ltb y (suc n) ≡ true) × (below (suc n) s ≡ true)
        → (distinct s ≡ true → below (suc n) s ≡ true → below n (without n s) ≡ true) → below n (pick b y s (without n s)) ≡ true
    go true p h k ih = below_less n s (ap (λ (z : ℕ). has z s) (sym (eqb-true y n p)) ∙ not-true _ h.0) k.1
    go false p h k ih = rw (lt-ltb y n (strict y n (ltb-true y (suc n) k.0) (eqb-false y n p))) (ih h.1 k.1)

-- different numbers below n are at most n
at_most : (n : ℕ) (s : List ℕ) → distinct s ≡ true → below n s ≡ true → length s ≤ n
at_most zero [] d e = omega arith
at_most zero (x ∷ s) d e = let z = (below_iff 0 (x ∷ s)).0 e 0 (omega arith) in let w : ⊥ = omega arith in absurd w
at_most (suc n) s d e =
    let ih = at_most n (without n s) (distinct_without n s d) (below_without n s d e) in
    let m = length_without n s in
    omega arith

-- n of them are all
pub all_there : (n : ℕ) (s : List ℕ) → distinct s ≡ true → below n s ≡ true → length s ≡ n → (y : ℕ) → y < n → has y s ≡ true
unfolding distinct below
all_there n s d e l y h = go (has y s) refl
  where
    more : has y s ≡ false → length (y ∷ s) ≤ n
    more p = at_most n (y ∷ s) (rw p d) (rw (lt-ltb y n h) e)

    go : (b : Bool) → has y s ≡ b → b ≡ true
    go true p = refl
    go false p = let m = more p in let z : ⊥ = omega arith in absurd z
