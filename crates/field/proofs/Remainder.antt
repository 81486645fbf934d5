-- The field's product is the remainder of the polynomials' product by 12D: that product is a multiple of 12D, XOR the field's product, which is a byte.
-- Assumes nothing.
use mathlib.Core.Path.{◌≡◌, refl, sym, ap, ap₂, ◌∙◌}
use Prim.Native.Nat.{ℕ, zero, suc, ◌-◌, ◌*◌, ◌/◌, ◌%◌, ◌^◌, ◌<◌}
use native.Mathlib.Nat.{mod-eq_of_lt, mul-one, mul_assoc, mul_comm, pow-suc}
use lib.Bits.{bit_xor, xor_zero_l}
use Rattle.forms.specs.Lists.{xor_sum}
use Rattle.forms.proofs.Xor.{Digit, off, on, parity, xors, xor_shl, digit_times, Additive, digit_into}
use Rattle.forms.proofs.Sums.{xor_sum_cong, xor_sum_xor, additive_xor_sum}
use Rattle.field.specs.Field.{times_x, shift, mul, poly_mul}
use Rattle.field.proofs.Field.{shift_lt}

pub poly_xor : (n b : ℕ) → Additive (λ a. poly_mul n a b)
unfolding poly_mul
poly_xor n b x y =
    xor_sum_cong n (λ k. b / 2 ^ k % 2 * (bit_xor x y * 2 ^ k)) (λ k. bit_xor (b / 2 ^ k % 2 * (x * 2 ^ k)) (b / 2 ^ k % 2 * (y * 2 ^ k)))
    (λ k l. ap (λ (z : ℕ). b / 2 ^ k % 2 * z) (xor_shl x y k) ∙ digit_times (parity (b / 2 ^ k)) (x * 2 ^ k) (y * 2 ^ k))
    ∙ xor_sum_xor n (λ k. b / 2 ^ k % 2 * (x * 2 ^ k)) (λ k. b / 2 ^ k % 2 * (y * 2 ^ k))

pub poly_double : (n a b : ℕ) → poly_mul n (a * 2) b ≡ poly_mul n a b * 2
unfolding poly_mul
poly_double n a b =
    xor_sum_cong n (λ k. b / 2 ^ k % 2 * (a * 2 * 2 ^ k)) (λ k. b / 2 ^ k % 2 * (a * 2 ^ k) * 2)
    (λ k l. ap (λ (z : ℕ). b / 2 ^ k % 2 * z) (mul_assoc a 2 (2 ^ k) ∙ ap (λ (z : ℕ). a * z) (mul_comm 2 (2 ^ k)) ∙ sym (mul_assoc a (2 ^ k) 2))
    ∙ sym (mul_assoc (b / 2 ^ k % 2) (a * 2 ^ k) 2))
    ∙ sym (additive_xor_sum (λ z. z * 2) (λ x y. xor_shl x y 1) n (λ k. b / 2 ^ k % 2 * (a * 2 ^ k)))

poly_digit : {d : ℕ} → Digit d → poly_mul 9 d 0x12D ≡ d * 0x12D
unfolding poly_mul xor_sum
poly_digit off = refl
poly_digit on = refl

-- one place up, of a byte
up : (a : ℕ) → a < 2 ^ 8 → a * 2 ≡ bit_xor (times_x a) (a / 2 ^ 7 % 2 * 0x12D)
unfolding times_x
up a h = ap (λ (x : ℕ). x * 2) (sym (mod-eq_of_lt h)) ∙ sorted (a % 2 ^ 8 * 2) (a / 2 ^ 7 % 2 * 0x12D)
  where
    sorted : (x y : ℕ) → x ≡ bit_xor (bit_xor x y) y
    sorted x y = simp xors

-- the quotient of a x^k by 12D
quotient : ℕ → ℕ → ℕ
quotient a zero = 0
quotient a (suc k) = bit_xor (quotient a k * 2) (shift a k / 2 ^ 7 % 2)

shift_remainder : (a k : ℕ) → a < 2 ^ 8 → a * 2 ^ k ≡ bit_xor (poly_mul 9 (quotient a k) 0x12D) (shift a k)
unfolding quotient shift
shift_remainder a zero h = mul-one a ∙ sym (mod-eq_of_lt h) ∙ sym (ap (λ (x : ℕ). bit_xor x (a % 2 ^ 8)) (poly_digit off) ∙ xor_zero_l (a % 2 ^ 8))
shift_remainder a (suc k) h =
    let p : ℕ = poly_mul 9 (quotient a k) 0x12D in
    let s : ℕ = shift a k in
    let d : ℕ = s / 2 ^ 7 % 2 in
    ap (λ (x : ℕ). a * x) (pow-suc 2 k) ∙ sym (mul_assoc a (2 ^ k) 2) ∙ ap (λ (x : ℕ). x * 2) (shift_remainder a k h) ∙ xor_shl p s 1
    ∙ ap₂ bit_xor (sym (poly_double 9 (quotient a k) 0x12D)) (up s (shift_lt a k) ∙ ap (bit_xor (times_x s)) (sym (poly_digit (parity (s / 2 ^ 7)))))
    ∙ sorted (poly_mul 9 (quotient a k * 2) 0x12D) (times_x s) (poly_mul 9 d 0x12D)
    ∙ ap (λ (x : ℕ). bit_xor x (times_x s)) (sym (poly_xor 9 0x12D (quotient a k * 2) d))
  where
    sorted : (x y z : ℕ) → bit_xor x (bit_xor y z) ≡ bit_xor (bit_xor x z) y
    sorted x y z = simp xors

pub mul_remainder : (a b : ℕ) → a < 2 ^ 8 → (q : ℕ) × (poly_mul 8 a b ≡ bit_xor (poly_mul 9 q 0x12D) (mul a b))
unfolding poly_mul mul
mul_remainder a b h = (
  xor_sum 8 (λ k. bit k * quotient a k),
  xor_sum_cong 8 (λ k. bit k * (a * 2 ^ k)) (λ k. bit_xor (poly_mul 9 (bit k * quotient a k) 0x12D) (bit k * shift a k))
      (λ k l. ap (λ (x : ℕ). bit k * x) (shift_remainder a k h)
      ∙ digit_times (parity (b / 2 ^ k)) (poly_mul 9 (quotient a k) 0x12D) (shift a k)
      ∙ ap (λ (x : ℕ). bit_xor x (bit k * shift a k)) (sym (digit_into (λ x. poly_mul 9 x 0x12D) (poly_xor 9 0x12D) (parity (b / 2 ^ k)) (quotient a k))))
      ∙ xor_sum_xor 8 (λ k. poly_mul 9 (bit k * quotient a k) 0x12D) (λ k. bit k * shift a k)
      ∙ ap (λ (x : ℕ). bit_xor x (mul a b)) (sym (additive_xor_sum (λ x. poly_mul 9 x 0x12D) (poly_xor 9 0x12D) 8 (λ k. bit k * quotient a k))),
)
  where
    bit : ℕ → ℕ
    bit k = b / 2 ^ k % 2
