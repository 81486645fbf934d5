-- The field GF(2^128) that the subkeys of SP 800-38B (5.3, 6.1) are doubled in: a block is read as a number, and bit k of that is the coefficient
-- of x^k. No operation names this: it is what the doubling is shown to be.
-- Assumes nothing.
use Rattle.std.specs.Prelude.{◌≡◌, ℕ, ◌+◌, ◌^◌, ◌<◌}
use Rattle.std.specs.Int.Bits.{bit_xor}
use Rattle.field.specs.Field.{poly_mul}

-- x^128 + x^7 + x^2 + x + 1
unfoldable pub modulus : ℕ
modulus = 2 ^ 128 + 0x87

-- r is the remainder of the polynomial a: of degree below 128, and a is a multiple of the modulus, XOR r
pub record Remainder (a r : ℕ) : Type 0 where
  pub quotient : ℕ
  pub small : r < 2 ^ 128
  pub rest : a ≡ bit_xor (poly_mul 129 quotient modulus) r
