-- The field GF(2^8) of the article's section 3.8, whose polynomial is x^8 + x^5 + x^3 + x^2 + 1, in hexadecimal 12D.
-- Bit k of a byte is the coefficient of x^k, and the sum is XOR. Of a larger number the low byte is read.
-- Assumes nothing.
use Rattle.std.specs.Prelude.{ℕ, zero, suc, ◌*◌, ◌/◌, ◌%◌, ◌^◌}
use Rattle.std.specs.Int.Bits.{bit_xor}
use Rattle.forms.specs.Lists.{xor_sum}

-- a byte times x: one place up, and XOR 12D where that reaches x^8
unfoldable pub times_x : ℕ → ℕ
times_x a = bit_xor (a % 2 ^ 8 * 2) (a / 2 ^ 7 % 2 * 0x12D)

-- a byte times x^k
unfoldable pub shift : ℕ → ℕ → ℕ
shift a zero = a % 2 ^ 8
shift a (suc k) = times_x (shift a k)

-- the product of a by the multiplier b: the XOR of a x^k over the bits k of b that are 1
unfoldable pub mul : ℕ → ℕ → ℕ
mul a b = xor_sum 8 (λ k. b / 2 ^ k % 2 * shift a k)

-- a to the power n
unfoldable pub power : ℕ → ℕ → ℕ
power a zero = 1
power a (suc n) = mul (power a n) a

-- the product of two polynomials, not reduced: the XOR of a x^k over the n low bits k of b that are 1
unfoldable pub poly_mul : ℕ → ℕ → ℕ → ℕ
poly_mul n a b = xor_sum n (λ k. b / 2 ^ k % 2 * (a * 2 ^ k))
