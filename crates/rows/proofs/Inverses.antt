-- Every accepted row has exactly one inverse row, a refused one has none, and mixing by a row and by its inverse undo each other.
-- Assumes nothing.
use mathlib.Core.Path.{◌≡◌, refl, sym, ap, ◌∙◌, subst}
use mathlib.Core.List.{List, [], ◌∷◌}
use Prim.Native.Nat.{ℕ, zero, suc, ◌^◌, ◌<◌}
use native.Mathlib.Nat.{pos_of_ne-zero}
use native.Mathlib.Omega.{arith}
use lib.ListN.{replicate}
use Rattle.forms.specs.Lists.{tabulate, xor_sum, pick, iterate}
use Rattle.forms.specs.Words.{byte}
use Rattle.field.specs.Field.{times_x, shift, mul, power}
use Rattle.field.specs.Mixing.{mix, product, row_sum, scale}
use Rattle.field.specs.Published.{row}
use Rattle.field.proofs.Field.{zero-mul, no_divisors}
use Rattle.field.proofs.Power.{power_lt, power_pos, power_255}
use Rattle.field.proofs.Mixing.{mix_product, mix_mix}
use Rattle.rows.specs.Inverse.{Row, constant_row, neutral, row_power, reciprocal, inverse_row, inverted}
use Rattle.rows.proofs.Rows.{row_accepted}
use Rattle.rows.proofs.Ring.{bytes_of, bytes_row, product_comm, product_assoc, constant_constant, mix_constant, mix_neutral, product_neutral, power_bytes, eighth_power, sum_product, sum_lt}

-- ---- it is an inverse

-- as the code has it: the seventh power as a word, every byte divided
pub inverse_bytes_lem : (g : List ℕ) → inverse_row g ≡ bytes_of (scale (reciprocal (power (row_sum g) 8)) (iterate 7 (mix g) 1))
unfolding inverse_row
inverse_bytes_lem g =
    let c = reciprocal (power (row_sum g) 8) in
    let w = iterate 7 (mix g) 1 in
    ap (λ (x : List ℕ). product x (constant_row c)) (power_bytes g 7) ∙ sym (mix_product (constant_row c) w) ∙ ap bytes_of (mix_constant c w)

pub inverse_row_lem : (g : List ℕ) → Row (inverse_row g)
inverse_row_lem g = subst Row (sym (inverse_bytes_lem g)) (bytes_row _)

pub reciprocal_one : (a : ℕ) → 0 < a → a < 2 ^ 8 → mul a (reciprocal a) ≡ 1
unfolding reciprocal
reciprocal_one = power_255

module _ (g : List ℕ) (r : Row g) (h : row_sum g ≡ 0 → ⊥) where
  pub product_inverse : product g (inverse_row g) ≡ neutral
  unfolding inverse_row row_power neutral
  product_inverse =
      let c = power (row_sum g) 8 in
      let d = constant_row (reciprocal c) in
      sym (product_assoc g (row_power g 7) d r) ∙ ap (λ (x : List ℕ). product x d) (product_comm g (row_power g 7) ∙ eighth_power g)
      ∙ constant_constant c (reciprocal c) (power_lt (row_sum g) 8)
      ∙ ap constant_row (reciprocal_one c (power_pos (row_sum g) 8 (pos_of_ne-zero h) (sum_lt g r)) (power_lt (row_sum g) 8))

  -- and the only one
  pub only_inverse : (k : List ℕ) → Row k → product g k ≡ neutral → k ≡ inverse_row g
  only_inverse k s e =
      sym (product_neutral k s) ∙ ap (product k) (sym product_inverse) ∙ sym (product_assoc k g (inverse_row g) s)
      ∙ ap (λ (x : List ℕ). product x (inverse_row g)) (product_comm k g ∙ e)
      ∙ product_comm neutral (inverse_row g) ∙ product_neutral (inverse_row g) (inverse_row_lem g)

  -- mixing there and back, either way round
  pub mix_back : (w : ℕ) → w < 2 ^ 64 → mix (inverse_row g) (mix g w) ≡ w
  mix_back w l = mix_mix g (inverse_row g) w ∙ ap (λ (x : List ℕ). mix x w) product_inverse ∙ mix_neutral w l

  pub mix_forth : (w : ℕ) → w < 2 ^ 64 → mix g (mix (inverse_row g) w) ≡ w
  mix_forth w l = mix_mix (inverse_row g) g w ∙ ap (λ (x : List ℕ). mix x w) (product_comm (inverse_row g) g ∙ product_inverse) ∙ mix_neutral w l

-- ---- which rows are accepted

sum_neutral : row_sum neutral ≡ 1
unfolding row_sum xor_sum neutral constant_row
sum_neutral = refl

pub neutral_accepted : row_sum neutral ≡ 0 → ⊥
neutral_accepted e = omega (arith, e, sum_neutral)

-- a row that XORs to zero has no inverse
pub no_inverse : (g k : List ℕ) → row_sum g ≡ 0 → product g k ≡ neutral → ⊥
no_inverse g k z e = neutral_accepted (ap row_sum (sym e) ∙ sum_product g k ∙ ap (λ (x : ℕ). mul x (row_sum k)) z ∙ zero-mul (row_sum k))

-- so an inverse row is accepted, and a product exactly where both factors are
pub inverse_accepted : (g : List ℕ) → Row g → (row_sum g ≡ 0 → ⊥) → row_sum (inverse_row g) ≡ 0 → ⊥
inverse_accepted g r h z = no_inverse (inverse_row g) g z (product_comm (inverse_row g) g ∙ product_inverse g r h)

pub product_accepted : (g k : List ℕ) → Row g → Row k → (row_sum g ≡ 0 → ⊥) → (row_sum k ≡ 0 → ⊥) → row_sum (product g k) ≡ 0 → ⊥
product_accepted g k r s p q z =
    q (no_divisors (row_sum g) (row_sum k) (pos_of_ne-zero p) (sum_lt g r) (sum_lt k s) (sym (sum_product g k) ∙ z))

pub product_left : (g k : List ℕ) → row_sum g ≡ 0 → row_sum (product g k) ≡ 0
product_left g k z = sum_product g k ∙ ap (λ (x : ℕ). mul x (row_sum k)) z ∙ zero-mul (row_sum k)

pub product_right : (g k : List ℕ) → row_sum k ≡ 0 → row_sum (product g k) ≡ 0
product_right g k z = ap row_sum (product_comm g k) ∙ product_left k g z

-- ---- the answer has the number that it was given; on 0 the inverse row, on a refusal the zero row

pub inverted_number : (g : List ℕ) (r : ℕ) → (inverted g r).number ≡ r
unfolding inverted
inverted_number g zero = refl
inverted_number g (suc r) = refl

pub inverted_done : (g : List ℕ) {r : ℕ} → r ≡ 0 → inverted g r ≡ record { number = 0; row = inverse_row g }
unfolding inverted
inverted_done g e = rw e

pub inverted_refused : (g : List ℕ) (r : ℕ) → (r ≡ 0 → ⊥) → inverted g r ≡ record { number = r; row = replicate 8 0 }
unfolding inverted
inverted_refused g zero h = absurd (h refl)
inverted_refused g (suc r) h = refl

-- ---- the published row's

-- rows that are written out, by their words
written : (w : ℕ) {g : List ℕ} → bytes_of w ≡ g → Row g
written w e = subst Row e (bytes_row w)

pub published_inverse : inverse_row row ≡ 0x35 ∷ 0xC0 ∷ 0xC7 ∷ 0xA9 ∷ 0x9E ∷ 0xC6 ∷ 0x2E ∷ 0xF3 ∷ []
unfolding product tabulate xor_sum pick byte mul shift times_x row neutral constant_row
published_inverse = sym (only_inverse row (written 0x0C0F1F0A0F030101 refl) row_accepted inverse (written 0xF32EC69EA9C7C035 refl) one)
  where
    inverse : List ℕ
    inverse = 0x35 ∷ 0xC0 ∷ 0xC7 ∷ 0xA9 ∷ 0x9E ∷ 0xC6 ∷ 0x2E ∷ 0xF3 ∷ []

    one : product row inverse ≡ neutral
    one = refl
