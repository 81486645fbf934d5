-- Laws of tests and of what they choose.
-- Assumes nothing.
use mathlib.Core.Path.{◌≡◌, refl, sym, ◌∙◌}
use mathlib.Core.Bool.{Bool, true, false, not, ◌&&◌, ◌||◌, false≢true}
use mathlib.Core.Logic.{◌⊎◌, inl, inr, ⊎_map, ◌↔◌}
use Prim.Native.Nat.{ℕ, ◌≤◌, ◌<◌}
use borrow.Author.Tests.{eq-eqb, ne_eqb, eqb-true, lt-ltb, ltb-true, le-leb, leb-true, leb-false, lt-leb}
use lib.Dec.{eqb, ltb, leb}
use Rattle.forms.specs.Lists.{when}

pub or_true : (a b : Bool) → (a || b) ≡ true → (a ≡ true) ⊎ (b ≡ true)
or_true true b e = inl refl
or_true false b e = inr e

pub true_or : (a b : Bool) → (a ≡ true) ⊎ (b ≡ true) → (a || b) ≡ true
true_or true b e = refl
true_or false b (inl e) = absurd (false≢true e)
true_or false b (inr e) = e

pub eqb_iff : (a b : ℕ) → (eqb a b ≡ true) ↔ (a ≡ b)
eqb_iff a b = (eqb-true a b, eq-eqb a b)

-- n is one of three numbers
abbrev pub OneOf : ℕ → ℕ → ℕ → ℕ → Type 0
OneOf a b c n = (n ≡ a) ⊎ ((n ≡ b) ⊎ (n ≡ c))

pub one_of : (a b c n : ℕ) → ((eqb n a || (eqb n b || eqb n c)) ≡ true) ↔ OneOf a b c n
one_of a b c n = (
  λ e. ⊎_map (eqb-true n a) (λ r. ⊎_map (eqb-true n b) (eqb-true n c) (or_true (eqb n b) (eqb n c) r)) (or_true (eqb n a) (eqb n b || eqb n c) e),
  λ o. true_or (eqb n a) (eqb n b || eqb n c) (⊎_map (eq-eqb n a) (λ r. true_or (eqb n b) (eqb n c) (⊎_map (eq-eqb n b) (eq-eqb n c) r)) o),
)

-- the tests one after another, as the code makes them
module _ (a b c n : ℕ) where
  pub one_of_first : n ≡ a → true ≡ (eqb n a || (eqb n b || eqb n c))
  one_of_first e = rw (eq-eqb n a e)

  pub one_of_second : (n ≡ a → ⊥) → n ≡ b → true ≡ (eqb n a || (eqb n b || eqb n c))
  one_of_second p e = rw (ne_eqb n a p, eq-eqb n b e)

  pub one_of_third : (n ≡ a → ⊥) → (n ≡ b → ⊥) → eqb n c ≡ (eqb n a || (eqb n b || eqb n c))
  one_of_third p q = rw (ne_eqb n a p, ne_eqb n b q)

pub and_both : (a b : Bool) → (a && b) ≡ true → (a ≡ true) × (b ≡ true)
and_both true b e = (refl, e)
and_both false b e = absurd (false≢true e)

-- n is from a to b
pub within_iff : (a b n : ℕ) → ((leb a n && leb n b) ≡ true) ↔ ((a ≤ n) × (n ≤ b))
within_iff a b n = (
  λ e. let h = and_both (leb a n) (leb n b) e in (leb-true a n h.0, leb-true n b h.1),
  λ h. rw (le-leb a n h.0, le-leb n b h.1),
)

pub when_chosen : {A : Type 0} {r b : Bool} (x y : A) → r ≡ b → r ≡ true → x ≡ when b x y
when_chosen x y e t = rw (sym e ∙ t)

pub when_spared : {A : Type 0} {r b : Bool} (x y : A) → r ≡ b → r ≡ false → y ≡ when b x y
when_spared x y e t = rw (sym e ∙ t)

pub and_assoc : (p q r : Bool) → ((p && q) && r) ≡ (p && (q && r))
and_assoc true q r = refl
and_assoc false q r = refl

-- two comparisons that hold together
pub same_leb : (a b c d : ℕ) (t : Bool) → leb a b ≡ t → (a ≤ b → c ≤ d) → (b < a → d < c) → t ≡ leb c d
same_leb a b c d true e h k = sym (le-leb c d (h (leb-true a b e)))
same_leb a b c d false e h k = sym (lt-leb c d (k (leb-false a b e)))

pub when_all : {A : Type 0} (P : A → Type 0) (b : Bool) {x y : A} → (b ≡ true → P x) → (b ≡ false → P y) → P (when b x y)
when_all P true f g = f refl
when_all P false f g = g refl

pub and_true : (t : Bool) → (t && true) ≡ t
and_true true = refl
and_true false = refl

pub or_neither : (a b : Bool) → (a || b) ≡ false → (a ≡ false) × (b ≡ false)
or_neither true b e = absurd (false≢true (sym e))
or_neither false b e = (refl, e)

pub false_unless : (b : Bool) → (b ≡ true → ⊥) → b ≡ false
false_unless true h = absurd (h refl)
false_unless false h = refl

-- either way a test goes
pub by_test : {A : Type 0} (b : Bool) → (b ≡ true → A) → (b ≡ false → A) → A
by_test true f g = f refl
by_test false f g = g refl

-- ---- what tests say in plain terms

pub leb_iff : (a b : ℕ) → (leb a b ≡ true) ↔ (a ≤ b)
leb_iff a b = (leb-true a b, le-leb a b)

pub ltb_iff : (a b : ℕ) → (ltb a b ≡ true) ↔ (a < b)
ltb_iff a b = (ltb-true a b, lt-ltb a b)

module _ {A B : Type 0} (a b : Bool) (p : (a ≡ true) ↔ A) (q : (b ≡ true) ↔ B) where
  pub and_iff : ((a && b) ≡ true) ↔ (A × B)
  and_iff = (λ e. let h = and_both a b e in (p.0 h.0, q.0 h.1), λ h. rw (p.1 h.0, q.1 h.1))

  pub or_iff : ((a || b) ≡ true) ↔ (A ⊎ B)
  or_iff = (λ e. ⊎_map p.0 q.0 (or_true a b e), λ h. true_or a b (⊎_map p.1 q.1 h))

pub not_iff : {A : Type 0} (a : Bool) → ((a ≡ true) ↔ A) → (not a ≡ true) ↔ (A → ⊥)
not_iff true p = (λ e h. false≢true e, λ h. absurd (h (p.0 refl)))
not_iff false p = (λ e h. false≢true (p.1 h), λ h. refl)
