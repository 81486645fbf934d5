-- What the refusals say in plain terms; the answer for the published row; look-up in a table that was made.
-- Assumes nothing.
use mathlib.Core.Path.{◌≡◌, refl, ap, ◌∙◌}
use mathlib.Core.Bool.{Bool, true, false, not}
use mathlib.Core.Logic.{◌⊎◌, inl, inr, ◌↔◌}
use mathlib.Core.List.{List}
use Prim.Native.Nat.{ℕ, zero, suc}
use native.Mathlib.Omega.{arith}
use borrow.Author.Tests.{eq-eqb, ne_eqb, eqb-true, eqb-false, not-true}
use lib.Dec.{eqb}
use Rattle.forms.specs.Lists.{xor_sum}
use Rattle.forms.specs.Words.{each_byte}
use Rattle.forms.specs.Refusals.{unless}
use Rattle.forms.proofs.Refusals.{unless_zero}
use Rattle.forms.proofs.Words.{OnBytes}
use Rattle.field.specs.Substitution.{sub}
use Rattle.field.specs.Mixing.{mix, row_sum}
use Rattle.field.specs.Merged.{merged, lookup}
use Rattle.field.specs.Published.{row}
use Rattle.field.proofs.Merged.{lookup_merged}
use Rattle.rows.specs.declared.Mixed.{Mixed}
use Rattle.rows.specs.Rows.{accepted, row_refusal, table_refusal, mixed}

-- a row whose coefficients XOR to zero is turned away, every other one accepted
pub turned_away : (g : List ℕ) → row_sum g ≡ 0 → accepted g ≡ false
unfolding accepted
turned_away g e = ap not (eq-eqb (row_sum g) 0 e)

pub taken : (g : List ℕ) → (row_sum g ≡ 0 → ⊥) → accepted g ≡ true
unfolding accepted
taken g h = ap not (ne_eqb (row_sum g) 0 h)

not_zero : (g : List ℕ) → accepted g ≡ true → row_sum g ≡ 0 → ⊥
unfolding accepted
not_zero g t = eqb-false (row_sum g) 0 (not-true (eqb (row_sum g) 0) t)

pub accepted_iff : (g : List ℕ) → (accepted g ≡ true) ↔ (row_sum g ≡ 0 → ⊥)
accepted_iff g = (not_zero g, taken g)

-- mixing: 13 exactly where the coefficients XOR to zero, else 0
pub row_zero : (g : List ℕ) → row_sum g ≡ 0 → row_refusal g ≡ 13
unfolding row_refusal
row_zero g e = rw (turned_away g e)

pub row_iff : (g : List ℕ) → (row_refusal g ≡ 0) ↔ (row_sum g ≡ 0 → ⊥)
unfolding row_refusal
row_iff g = (λ e. not_zero g (unless_zero (accepted g) 12 0 e).0, λ h. rw (taken g h))

pub row_number_lem : (g : List ℕ) {r : ℕ} → r ≡ row_refusal g → ((row_sum g ≡ 0) × (r ≡ 13)) ⊎ ((row_sum g ≡ 0 → ⊥) × (r ≡ 0))
row_number_lem g {r} e = by_sum (eqb (row_sum g) 0) refl
  where
    by_sum : (b : Bool) → eqb (row_sum g) 0 ≡ b → ((row_sum g ≡ 0) × (r ≡ 13)) ⊎ ((row_sum g ≡ 0 → ⊥) × (r ≡ 0))
    by_sum true p = let z = eqb-true (row_sum g) 0 p in inl (z, e ∙ row_zero g z)
    by_sum false p = let h = eqb-false (row_sum g) 0 p in inr (h, e ∙ (row_iff g).1 h)

-- making the table: 13 exactly there too, so the row's number, then 5 exactly where the buffer isn't 256 words
pub table_zero : (g : List ℕ) (room : ℕ) → row_sum g ≡ 0 → table_refusal g room ≡ 13
unfolding table_refusal
table_zero g room e = rw (turned_away g e)

pub table_refused : (g : List ℕ) (room : ℕ) {r : ℕ} → r ≡ row_refusal g → (r ≡ 0 → ⊥) → r ≡ table_refusal g room
unfolding row_refusal table_refusal
table_refused g room e h = e ∙ either (accepted g) (λ z. h (e ∙ z))
  where
    either : (b : Bool) → (unless b 13 0 ≡ 0 → ⊥) → unless b 13 0 ≡ unless b 13 (unless (eqb room 256) 5 0)
    either true z = absurd (z refl)
    either false z = refl

pub table_five : (g : List ℕ) (room : ℕ) → (row_sum g ≡ 0 → ⊥) → (room ≡ 256 → ⊥) → table_refusal g room ≡ 5
unfolding table_refusal
table_five g room h p = rw (taken g h, ne_eqb room 256 p)

pub table_iff : (g : List ℕ) (room : ℕ) → (table_refusal g room ≡ 0) ↔ ((row_sum g ≡ 0 → ⊥) × (room ≡ 256))
unfolding table_refusal
table_iff g room = (
  λ e. let a = unless_zero (accepted g) 12 _ e in (not_zero g a.0, eqb-true room 256 (unless_zero (eqb room 256) 4 0 a.1).0),
  λ h. rw (taken g h.0, eq-eqb room 256 h.1),
)

-- mixing's answer has the number that it was given; on 0 the mixed word, on a refusal the zero word
pub mixed_number : (g : List ℕ) (w r : ℕ) → (mixed g w r).number ≡ r
unfolding mixed
mixed_number g w zero = refl
mixed_number g w (suc r) = refl

pub mixed_done : (g : List ℕ) (w : ℕ) {r : ℕ} → r ≡ 0 → mixed g w r ≡ record { number = 0; word = mix g w }
unfolding mixed
mixed_done g w e = rw e

pub mixed_refused : (g : List ℕ) (w r : ℕ) → (r ≡ 0 → ⊥) → mixed g w r ≡ record { number = r; word = 0 }
unfolding mixed
mixed_refused g w zero h = absurd (h refl)
mixed_refused g w (suc r) h = refl

-- ---- the published row: its coefficients XOR to 1A

pub row_accepted : row_sum row ≡ 0 → ⊥
unfolding row_sum xor_sum row
row_accepted e = let z : ⊥ = omega arith in z

-- as a caller hands it in, and takes the word
pub published_mixed : (w : ℕ) {g : List ℕ} {m : Mixed} → g ≡ row → m ≡ mixed g w (row_refusal g) → m ≡ record { number = 0; word = mix row w }
published_mixed w e p = p ∙ ap (λ (r : List ℕ). mixed r w (row_refusal r)) e ∙ mixed_done row w ((row_iff row).1 row_accepted)

pub published_word : (w : ℕ) {g : List ℕ} {m : Mixed} → g ≡ row → m ≡ mixed g w (row_refusal g) → m.word ≡ mix row w
published_word w e p = ap (λ (m : Mixed). m.word) (published_mixed w e p)

-- ---- look-up in a table made for a row and a substitution is mixing, by that row, of the substituted word

pub lookup_made : (g s : List ℕ) → OnBytes (sub s) → {t : List ℕ} → t ≡ merged g s → (w : ℕ) → lookup t w ≡ mix g (each_byte (sub s) w)
lookup_made g s on_bytes e w = ap (λ (t : List ℕ). lookup t w) e ∙ lookup_merged g s on_bytes w
