-- Laws of the bit length: it is the least m with b < 2 ^ m, it makes the width with the count of leading zeros, and a sum over a number's
-- bits may end with it.
-- Assumes nothing.
use mathlib.Core.Path.{◌≡◌, refl, sym, ap, ◌∙◌}
use mathlib.Core.Logic.{◌↔◌}
use Prim.Native.Nat.{ℕ, zero, suc, ◌+◌, ◌-◌, ◌*◌, ◌/◌, ◌%◌, ◌^◌, ◌≤◌, ◌<◌}
use native.Mathlib.Nat.{le_trans, lt_of_not-le, le_of_suc-le-suc, zero-mul, pow-suc, div-lt_iff_lt-mul, le-div_iff_mul-le}
use native.Mathlib.Omega.{arith}
use lib.Dec.{eqb}
use lib.Bits.{bit_xor, xor_zero_r}
use lib.Count.{count_leading_zeros, leading_unique}
use lib.Pow.{pow_pos, pow_mono}
use Rattle.forms.specs.Lists.{when, xor_sum}
use Rattle.forms.proofs.Xor.{Digit, off, on, parity}
use Rattle.arithmetic.specs.BitLength.{bit_length}

-- what holds where bit k is 1, and where it is 0 of the k bits below it, holds of one bit more
module _ (P : ℕ → Type 0) (k b : ℕ) where
  by_bit : {d : ℕ} → Digit d → (d ≡ 1 → P (suc k)) → (d ≡ 0 → P (bit_length k b)) → P (when (eqb d 1) (suc k) (bit_length k b))
  by_bit off one none = none refl
  by_bit on one none = one refl

  next_bit : (b / 2 ^ k % 2 ≡ 1 → P (suc k)) → (b / 2 ^ k % 2 ≡ 0 → P (bit_length k b)) → P (bit_length (suc k) b)
  unfolding bit_length
  next_bit = by_bit (parity (b / 2 ^ k))

pub bit_length_le : (n b : ℕ) → bit_length n b ≤ n
unfolding bit_length
bit_length_le zero b = omega arith
bit_length_le (suc k) b = next_bit (λ m. m ≤ suc k) k b (λ e. omega arith) (λ e. omega (arith, bit_length_le k b))

-- a number is below 2 ^ its bit length
bit_length_lt : (n b : ℕ) → b < 2 ^ n → b < 2 ^ bit_length n b
unfolding bit_length
bit_length_lt zero b h = h
bit_length_lt (suc k) b h =
    let q : b / 2 ^ k < 2 = (div-lt_iff_lt-mul (pow_pos k)).1 (omega (arith, pow-suc 2 k)) in
    next_bit (λ m. b < 2 ^ m) k b (λ e. h)
    (λ e. let z : b / 2 ^ k < 1 = omega arith in bit_length_lt k b (omega (arith, (div-lt_iff_lt-mul (pow_pos k)).0 z)))

-- and not below half of that
bit_length_top : (n b : ℕ) → 2 ^ bit_length n b ≤ 2 * b + 1
unfolding bit_length
bit_length_top zero b = omega arith
bit_length_top (suc k) b = next_bit (λ m. 2 ^ m ≤ 2 * b + 1) k b
    (λ e. let q : 1 ≤ b / 2 ^ k = omega arith in omega (arith, pow-suc 2 k, (le-div_iff_mul-le (pow_pos k)).0 q))
    (λ e. bit_length_top k b)

-- in plain terms: it is at most m exactly when the number is below 2 ^ m
pub bit_length_iff : (n b : ℕ) → b < 2 ^ n → (m : ℕ) → (bit_length n b ≤ m) ↔ (b < 2 ^ m)
bit_length_iff n b h m = (
  λ l. le_trans (bit_length_lt n b h) (pow_mono l),
  λ s. le_of_suc-le-suc (lt_of_not-le (λ (g : suc m ≤ bit_length n b). let z : ⊥ = omega (arith, pow-suc 2 m, pow_mono g, bit_length_top n b) in z)),
)

-- with the count of leading zeros it makes the width
pub bit_length_leading : (n b : ℕ) → b < 2 ^ n → n - count_leading_zeros n b ≡ bit_length n b
bit_length_leading n b h =
    let e = leading_unique n b (n - bit_length n b) (bit_length n b) (omega (arith, bit_length_le n b)) (bit_length_lt n b h) (bit_length_top n b) in
    omega (arith, bit_length_le n b)

-- the bits above it add nothing to a sum
pub xor_sum_bits : (n b : ℕ) (f : ℕ → ℕ) → xor_sum (bit_length n b) (λ k. b / 2 ^ k % 2 * f k) ≡ xor_sum n (λ k. b / 2 ^ k % 2 * f k)
unfolding bit_length xor_sum
xor_sum_bits zero b f = refl
xor_sum_bits (suc k) b f =
    let s : ℕ → ℕ = λ m. xor_sum m (λ k. b / 2 ^ k % 2 * f k) in
    next_bit (λ m. s m ≡ s (suc k)) k b (λ e. refl)
    (λ e. xor_sum_bits k b f ∙ sym (ap (bit_xor (s k)) (ap (λ (d : ℕ). d * f k) e ∙ zero-mul (f k)) ∙ xor_zero_r (s k)))
