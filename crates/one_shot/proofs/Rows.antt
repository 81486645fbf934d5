-- A word mixed by a row that has a length; the product of two such rows, the inverse, and the verdict.
-- Assumes nothing.
use mathlib.Core.Path.{◌≡◌, refl, sym, ap, ◌∙◌, subst}
use mathlib.Core.Logic.{◌⊎◌, inl, inr, ◌↔◌}
use mathlib.Core.List.{List}
use Prim.Native.Nat.{ℕ}
use native.Mathlib.Omega.{arith}
use borrow.Author.Tests.{eq-eqb, ne_eqb, eqb-true}
use lib.Dec.{eqb}
use lib.ListN.{length}
use Rattle.forms.specs.Refusals.{unless, Unless, outcome, first_of}
use Rattle.forms.proofs.Refusals.{unless_zero, refused_keeps, unless_plain, unless_one, unless_three}
use Rattle.forms.proofs.Booleans.{eqb_iff}
use Rattle.forms.proofs.Twice.{first_refused, first_passed, first_zero, first_plain}
use Rattle.field.specs.Mixing.{product, row_sum}
use Rattle.rows.specs.declared.Mixed.{Mixed}
use Rattle.rows.specs.declared.Inverted.{Inverted}
use Rattle.rows.specs.Rows.{row_refusal, mixed}
use Rattle.rows.specs.Inverse.{inverse_row, inverted}
use Rattle.rows.proofs.Rows.{row_zero, row_iff, row_number_lem, mixed_number}
use Rattle.rows.proofs.Inverses.{inverted_number, inverted_done}
use Rattle.judge.specs.declared.Verdict.{Verdict}
use Rattle.judge.specs.Judge.{Judged}
use Rattle.one_shot.specs.OneShot.{yes_byte, row_number, product_number, inverse_number, judge_number, VerdictGiven}

-- in plain terms: 4 for any other length, and taken exactly when it has eight bytes that don't XOR to zero
pub row_four : (g : List ℕ) → (length g ≡ 8 → ⊥) → row_number g ≡ 4
unfolding row_number
row_four g h = rw (ne_eqb (length g) 8 h)

pub row_plain : (g : List ℕ) {r : ℕ} → r ≡ row_number g → Unless (length g ≡ 8) (r ≡ 4) (((row_sum g ≡ 0) × (r ≡ 13)) ⊎ ((row_sum g ≡ 0 → ⊥) × (r ≡ 0)))
unfolding row_number
row_plain g e = unless_plain (eqb (length g) 8) 4 _ e (eqb_iff (length g) 8) (row_number_lem g)

pub row_taken : (g : List ℕ) → (row_number g ≡ 0) ↔ ((length g ≡ 8) × (row_sum g ≡ 0 → ⊥))
unfolding row_number
row_taken g = (
  λ e. let a = unless_zero (eqb (length g) 8) 3 _ e in (eqb-true (length g) 8 a.0, (row_iff g).0 a.1),
  λ h. rw (eq-eqb (length g) 8 h.0) ((row_iff g).1 h.1),
)

-- 4 for either row's length, then 5 for the destination's
pub product_plain : (g h : List ℕ) (room : ℕ) {r : ℕ} → r ≡ product_number g h room
    → Unless (length g ≡ 8) (r ≡ 4) (Unless (length h ≡ 8) (r ≡ 4) (Unless (room ≡ 8) (r ≡ 5) (r ≡ 0)))
unfolding product_number
product_plain g h room e =
    unless_plain (eqb (length g) 8) 4 _ e (eqb_iff (length g) 8) (λ e.
    unless_plain (eqb (length h) 8) 4 _ e (eqb_iff (length h) 8) (λ e.
    unless_plain (eqb room 8) 5 _ e (eqb_iff room 8) (λ e. e)))

pub product_taken : (g h : List ℕ) (room : ℕ) → (product_number g h room ≡ 0) ↔ ((length g ≡ 8) × (length h ≡ 8) × (room ≡ 8))
product_taken g h room = unless_three (product_plain g h room refl)

-- 13 wherever eight bytes XOR to zero, whatever the destination
pub inverse_thirteen : (g : List ℕ) (room : ℕ) → length g ≡ 8 → row_sum g ≡ 0 → inverse_number g room ≡ 13
unfolding inverse_number row_number
inverse_thirteen g room e z =
    let n : row_number g ≡ 13 = rw (eq-eqb (length g) 8 e) (row_zero g z) in
    sym (first_refused (row_number g) _ (λ p. omega (arith, n, p))) ∙ n

-- 4 for the row's length, then 13, then 5 for the destination's
pub inverse_plain : (g : List ℕ) (room : ℕ) {r : ℕ} → r ≡ inverse_number g room
    → Unless (length g ≡ 8) (r ≡ 4) (((row_sum g ≡ 0) × (r ≡ 13)) ⊎ ((row_sum g ≡ 0 → ⊥) × Unless (room ≡ 8) (r ≡ 5) (r ≡ 0)))
unfolding inverse_number
inverse_plain g room {r} e = by_first (first_plain (row_number g) (unless (eqb room 8) 5 0) e)
  where
    by_row : (r ≡ 0 → ⊥) → Unless (length g ≡ 8) (r ≡ 4) (((row_sum g ≡ 0) × (r ≡ 13)) ⊎ ((row_sum g ≡ 0 → ⊥) × (r ≡ 0)))
        → Unless (length g ≡ 8) (r ≡ 4) (((row_sum g ≡ 0) × (r ≡ 13)) ⊎ ((row_sum g ≡ 0 → ⊥) × Unless (room ≡ 8) (r ≡ 5) (r ≡ 0)))
    by_row h (inl u) = inl u
    by_row h (inr (l, inl u)) = inr (l, inl u)
    by_row h (inr (l, inr u)) = absurd (h u.1)

    by_first : Unless (row_number g ≡ 0) (r ≡ row_number g) (r ≡ unless (eqb room 8) 5 0)
        → Unless (length g ≡ 8) (r ≡ 4) (((row_sum g ≡ 0) × (r ≡ 13)) ⊎ ((row_sum g ≡ 0 → ⊥) × Unless (room ≡ 8) (r ≡ 5) (r ≡ 0)))
    by_first (inl u) = by_row (λ z. u.0 (sym u.1 ∙ z)) (row_plain g u.1)
    by_first (inr u) = let t = (row_taken g).0 u.0 in inr (t.0, inr (t.1, unless_plain (eqb room 8) 5 0 u.1 (eqb_iff room 8) (λ e. e)))

pub inverse_taken : (g : List ℕ) (room : ℕ) → (inverse_number g room ≡ 0) ↔ ((length g ≡ 8) × (row_sum g ≡ 0 → ⊥) × (room ≡ 8))
unfolding inverse_number
inverse_taken g room = (
  λ e. let a = first_zero (row_number g) _ e in
      let b = (row_taken g).0 a.0 in
      (b.0, b.1, eqb-true room 8 (unless_zero (eqb room 8) 4 0 a.1).0),
  λ h. sym (first_passed (row_number g) _ ((row_taken g).1 (h.0, h.1))) ∙ rw (eq-eqb room 8 h.2),
)

module _ (g : List ℕ) (w : ℕ) where
  -- what is promised
  abbrev pub RowDone : ℕ → ℕ → Type 0
  RowDone number out = (number ≡ row_number g) × (out ≡ (mixed g w number).word)

  pub row_length : (length g ≡ 8 → ⊥) → RowDone 4 0
  unfolding mixed
  row_length h = (sym (row_four g h), refl)

  pub row_eight : length g ≡ 8 → {r : List ℕ} {m : Mixed} → r ≡ g → m ≡ mixed r w (row_refusal r) → RowDone m.number m.word
  unfolding row_number
  row_eight e {r} {m} p q =
      let s : m ≡ mixed g w (row_refusal g) = q ∙ ap (λ (x : List ℕ). mixed x w (row_refusal x)) p in
      let n : m.number ≡ row_refusal g = ap (λ (x : Mixed). x.number) s ∙ mixed_number g w (row_refusal g) in
      (n ∙ rw (eq-eqb (length g) 8 e), ap (λ (x : Mixed). x.word) s ∙ ap (λ (x : ℕ). (mixed g w x).word) (sym n))

-- ---- the product

module _ (g h before : List ℕ) where
  -- what is promised
  abbrev pub ProductDone : ℕ → List ℕ → Type 0
  ProductDone number after = (number ≡ product_number g h (length before)) × (after ≡ outcome number (product g h) before)

  pub product_first : (length g ≡ 8 → ⊥) → ProductDone 4 before
  unfolding product_number
  product_first p = (rw (ne_eqb (length g) 8 p), refl)

  module _ (e : length g ≡ 8) where
    pub product_second : (length h ≡ 8 → ⊥) → ProductDone 4 before
    unfolding product_number
    product_second p = (rw (eq-eqb (length g) 8 e, ne_eqb (length h) 8 p), refl)

    pub product_room : length h ≡ 8 → (length before ≡ 8 → ⊥) → ProductDone 5 before
    unfolding product_number
    product_room f p = (rw (eq-eqb (length g) 8 e, eq-eqb (length h) 8 f, ne_eqb (length before) 8 p), refl)

    pub product_done : length h ≡ 8 → length before ≡ 8 → {after : List ℕ} → after ≡ product g h → ProductDone 0 after
    product_done f l p = (sym ((product_taken g h (length before)).1 (e, f, l)), p)

-- ---- the inverse

module _ (g before : List ℕ) where
  -- what is promised
  abbrev pub InverseDone : ℕ → List ℕ → Type 0
  InverseDone number after = (number ≡ inverse_number g (length before)) × (after ≡ outcome number (inverse_row g) before)

  pub inverse_length : (length g ≡ 8 → ⊥) → InverseDone 4 before
  unfolding inverse_number first_of
  inverse_length p = (rw (row_four g p), refl)

  -- of what inversion answered for the row as an array, r
  module _ (e : length g ≡ 8) {r : List ℕ} (p : r ≡ g) {x : Inverted} (q : x ≡ inverted r (row_refusal r)) where
    answered : x ≡ inverted g (row_refusal g)
    answered = q ∙ ap (λ (y : List ℕ). inverted y (row_refusal y)) p

    number_is : x.number ≡ row_number g
    unfolding row_number
    number_is = ap (λ (y : Inverted). y.number) answered ∙ inverted_number g (row_refusal g) ∙ rw (eq-eqb (length g) 8 e)

    pub inverse_refused : (x.number ≡ 0 → ⊥) → InverseDone x.number before
    unfolding inverse_number
    inverse_refused h = (number_is ∙ first_refused (row_number g) _ (λ z. h (number_is ∙ z)), refused_keeps x.number (inverse_row g) before h)

    module _ (z : x.number ≡ 0) where
      passed : (number : ℕ) → number ≡ unless (eqb (length before) 8) 5 0 → number ≡ inverse_number g (length before)
      unfolding inverse_number
      passed number e = e ∙ first_passed (row_number g) _ (sym number_is ∙ z)

      pub inverse_room : (length before ≡ 8 → ⊥) → InverseDone 5 before
      inverse_room h = (passed 5 (rw (ne_eqb (length before) 8 h)), refl)

      pub inverse_done : length before ≡ 8 → {after : List ℕ} → after ≡ x.row → InverseDone 0 after
      unfolding row_number
      inverse_done l a =
          let t : row_refusal g ≡ 0 = sym (ap (λ (y : Inverted). y.number) answered ∙ inverted_number g (row_refusal g)) ∙ z in
          (passed 0 (rw (eq-eqb (length before) 8 l)), a ∙ ap (λ (y : Inverted). y.row) (answered ∙ inverted_done g t))

-- in plain terms: 4 for any other length, and judged exactly when it has eight bytes
pub judge_four : (g : List ℕ) → (length g ≡ 8 → ⊥) → judge_number g ≡ 4
unfolding judge_number
judge_four g h = rw (ne_eqb (length g) 8 h)

pub judge_plain : (g : List ℕ) {r : ℕ} → r ≡ judge_number g → Unless (length g ≡ 8) (r ≡ 4) (r ≡ 0)
unfolding judge_number
judge_plain g e = unless_plain (eqb (length g) 8) 4 0 e (eqb_iff (length g) 8) (λ e. e)

pub judge_taken : (g : List ℕ) → (judge_number g ≡ 0) ↔ (length g ≡ 8)
judge_taken g = unless_one (judge_plain g refl)

-- as the code has it
pub judge_length : (g : List ℕ) → (length g ≡ 8 → ⊥) → (4 ≡ judge_number g) × VerdictGiven g 4 0 0
judge_length g h = (sym (judge_four g h), (λ e. let z : ⊥ = omega arith in absurd z, λ n. (refl, refl)))

pub judge_eight : (g : List ℕ) {h : List ℕ} {v : Verdict} {said : ℕ} → length g ≡ 8 → h ≡ g → Judged h v → said ≡ yes_byte 0 v.yes
    → (0 ≡ judge_number g) × VerdictGiven g 0 said v.word
judge_eight g {h} {v} l e j y = (sym ((judge_taken g).1 l), (λ n. (v, subst (λ (x : List ℕ). Judged x v) e j, y, refl), λ n. absurd (n refl)))
