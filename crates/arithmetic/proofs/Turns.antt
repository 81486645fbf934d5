-- What a product's loop has made after some turns, whatever it multiplies: sh k is that times x^k, y what is left of the multiplier b.
-- Assumes nothing.
use mathlib.Core.Path.{◌≡◌, refl, ap₂, ◌∙◌}
use Prim.Native.Nat.{ℕ, ◌+◌, ◌*◌, ◌/◌, ◌%◌, ◌^◌}
use native.Mathlib.Omega.{arith}
use lib.Bits.{bit_xor}
use Rattle.forms.specs.Lists.{xor_sum}
use Rattle.forms.proofs.Sums.{xor_sum_next, xor_sum_end}
use Rattle.field.proofs.TimesX.{half_next}
use Rattle.arithmetic.specs.BitLength.{bit_length}
use Rattle.arithmetic.proofs.BitLength.{xor_sum_bits}

pub record Turned (sh : ℕ → ℕ) (b turns value x y : ℕ) : Type 0 where
  pub sum : value ≡ xor_sum turns (λ k. b / 2 ^ k % 2 * sh k)
  pub power : x ≡ sh turns
  pub left : y ≡ b / 2 ^ turns

module _ (sh : ℕ → ℕ) (b : ℕ) where
  pub turned_none : {x : ℕ} → x ≡ sh 0 → Turned sh b 0 0 x b
  unfolding xor_sum
  turned_none e = record { sum = refl; power = e; left = omega arith }

  pub turned_next : (turns : ℕ) {value x y x' : ℕ} → Turned sh b turns value x y → x' ≡ sh (turns + 1) → Turned sh b (turns + 1) (bit_xor value (y % 2 * x)) x' (y / 2)
  turned_next turns t e =
      record {
        sum = xor_sum_next turns _ t.sum (ap₂ (λ (u v : ℕ). u % 2 * v) t.left t.power);
        power = e;
        left = half_next b turns t.left;
      }

  -- past the bit length nothing is left to add
  pub turned_end : {turns value x y : ℕ} → turns ≡ bit_length 8 b → Turned sh b turns value x y → value ≡ xor_sum 8 (λ k. b / 2 ^ k % 2 * sh k)
  turned_end e t = xor_sum_end _ e t.sum ∙ xor_sum_bits 8 b sh
