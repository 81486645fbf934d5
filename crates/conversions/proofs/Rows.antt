-- A word converted from one row to another: what the three operations answer, one after the other.
-- Assumes nothing.
use mathlib.Core.Path.{◌≡◌, refl, sym, ap, ap₂, ◌∙◌}
use mathlib.Core.Bool.{Bool, true, false}
use mathlib.Core.List.{List}
use Prim.Native.Nat.{ℕ, ◌^◌, ◌<◌}
use borrow.Author.Tests.{eqb-true, eqb-false}
use lib.Dec.{eqb}
use Rattle.forms.specs.Lists.{xor_sum}
use Rattle.forms.specs.Refusals.{first_of}
use Rattle.forms.proofs.Twice.{first_refused, first_passed}
use Rattle.field.specs.Mixing.{mix, product, row_sum}
use Rattle.field.proofs.Mixing.{mix_mix}
use Rattle.rows.specs.declared.Mixed.{Mixed}
use Rattle.rows.specs.declared.Inverted.{Inverted}
use Rattle.rows.specs.Rows.{row_refusal, mixed}
use Rattle.rows.specs.Inverse.{Row, inverse_row, inverted}
use Rattle.rows.proofs.Rows.{row_zero, row_iff, mixed_done}
use Rattle.rows.proofs.Inverses.{inverse_row_lem, inverse_accepted, product_accepted, product_left, product_right, mix_back, inverted_done, inverted_refused}

module _ (g h : List ℕ) (w : ℕ) where
  -- the inverse row, the mixed word, and the product
  abbrev k : List ℕ
  k = (inverted g (row_refusal g)).row

  abbrev u : ℕ
  u = (mixed g w (row_refusal g)).word

  abbrev p : List ℕ
  p = product k h

  abbrev Converted : Type 0
  Converted = mixed p u (row_refusal p) ≡ mixed h w (first_of (row_refusal g) (row_refusal h))

  refused : row_sum p ≡ 0 → first_of (row_refusal g) (row_refusal h) ≡ 13 → Converted
  unfolding mixed
  refused z e = ap (mixed p u) (row_zero p z) ∙ sym (ap (mixed h w) e)

  first : row_sum g ≡ 0 → Converted
  unfolding row_sum xor_sum
  first z =
      let n : row_refusal g ≡ 0 → ⊥ = λ e. (row_iff g).0 e z in
      let s : row_sum k ≡ 0 = ap (λ (x : Inverted). row_sum x.row) (inverted_refused g (row_refusal g) n) in
      refused (product_left k h s) (sym (first_refused (row_refusal g) (row_refusal h) n) ∙ row_zero g z)

  second : (row_sum g ≡ 0 → ⊥) → row_sum h ≡ 0 → Converted
  second a z = refused (product_right k h z) (sym (first_passed (row_refusal g) (row_refusal h) ((row_iff g).1 a)) ∙ row_zero h z)

  neither : Row g → Row h → w < 2 ^ 64 → (row_sum g ≡ 0 → ⊥) → (row_sum h ≡ 0 → ⊥) → Converted
  neither r s l a b =
      let e : row_refusal g ≡ 0 = (row_iff g).1 a in
      let i : k ≡ inverse_row g = ap (λ (x : Inverted). x.row) (inverted_done g e) in
      let t : row_sum p ≡ 0 → ⊥ = rw i (product_accepted (inverse_row g) h (inverse_row_lem g) s (inverse_accepted g r a) b) in
      let q : mix p u ≡ mix h w =
      ap₂ (λ (x : List ℕ) (y : ℕ). mix (product x h) y) i (ap (λ (m : Mixed). m.word) (mixed_done g w e)) ∙ sym (mix_mix (inverse_row g) h (mix g w))
      ∙ ap (mix h) (mix_back g r a w l) in
      mixed_done p u ((row_iff p).1 t) ∙ ap (λ (x : ℕ). record { number = 0; word = x }) q
      ∙ sym (mixed_done h w (sym (first_passed (row_refusal g) (row_refusal h) e) ∙ (row_iff h).1 b))

  pub converted : Row g → Row h → w < 2 ^ 64 → Converted
  converted r s l = go (eqb (row_sum g) 0) (eqb (row_sum h) 0) refl refl
    where
      go : (b c : Bool) → eqb (row_sum g) 0 ≡ b → eqb (row_sum h) 0 ≡ c → Converted
      go true c e f = first (eqb-true (row_sum g) 0 e)
      go false true e f = second (eqb-false (row_sum g) 0 e) (eqb-true (row_sum h) 0 f)
      go false false e f = neither r s l (eqb-false (row_sum g) 0 e) (eqb-false (row_sum h) 0 f)
