-- Rows multiply (document 02, Job 5). The product of two rows modulo x^8 + 1 is the article's (4.3), Mixing's `product`; here are the row that
-- changes nothing, powers and the inverse row.
-- Assumes nothing.
use Rattle.std.specs.Prelude.{ℕ, zero, suc, ◌^◌, ◌<◌, ◌≡◌, List, ◌∷◌, get_or, length, replicate}
use Rattle.field.specs.Field.{power}
use Rattle.field.specs.Mixing.{product, row_sum}
use Rattle.rows.specs.declared.Inverted.{Inverted}

-- a row is eight bytes
abbrev pub Row : List ℕ → Type 0
Row g = (length g ≡ 8) × ((i : ℕ) → get_or g i 0 < 2 ^ 8)

-- the constant row of c: c and seven 00
unfoldable pub constant_row : ℕ → List ℕ
constant_row c = c ∷ replicate 7 0

-- the neutral row: 01 and seven 00
unfoldable pub neutral : List ℕ
neutral = constant_row 1

-- a row to the power n
unfoldable pub row_power : List ℕ → ℕ → List ℕ
row_power g zero = neutral
row_power g (suc n) = product (row_power g n) g

-- 1 / a in the field, where a^255 is 1 for every byte a but 0
unfoldable pub reciprocal : ℕ → ℕ
reciprocal a = power a 254

-- the inverse row: the seventh power divided by the eighth power of the XOR of the coefficients
unfoldable pub inverse_row : List ℕ → List ℕ
inverse_row g = product (row_power g 7) (constant_row (reciprocal (power (row_sum g) 8)))

-- what is answered, by the number, 13 for a row whose coefficients XOR to zero (Rows' row_refusal): the inverse row, or the zero row
unfoldable pub inverted : List ℕ → ℕ → Inverted
inverted g zero = record { number = 0; row = inverse_row g }
inverted g (suc r) = record { number = suc r; row = replicate 8 0 }
