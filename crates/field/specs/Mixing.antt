-- The MBN transformation (the article's sections 3.8 and 4.3), called mixing here. Its row g is a list of eight bytes, the coefficients g_0 to g_7;
-- the published one stands in Published. Where 3.8's formula brackets the sum before the rotation, 4.3 decides: each product is rotated.
-- Assumes nothing.
use Rattle.std.specs.Prelude.{ℕ, ◌+◌, ◌-◌, ◌%◌, List, [], eqb, get_or}
use Rattle.forms.specs.Lists.{tabulate, xor_sum, pick}
use Rattle.forms.specs.Words.{byte, join, each_byte}
use Rattle.field.specs.Field.{mul}

-- 3.8: LCM(X) = < g_7 X || .. || g_1 X || g_0 X > (the article's name; 4.3 calls it TL)
unfoldable pub LCM : List ℕ → ℕ → ℕ
LCM g x = join 8 (λ i. mul x (get_or g i 0))

-- 1.2, 3.8: element (i, j) of the cyclic matrix is g at (i - j) mod 8
unfoldable pub element : List ℕ → ℕ → ℕ → ℕ
element g i j = get_or g ((i + 8 - j) % 8) 0

-- 3.8: the matrix, eight rows of eight bytes
unfoldable pub matrix : List ℕ → List (List ℕ)
matrix g = tabulate 8 (λ i. tabulate 8 (λ j. element g i j))

-- 3.8: a row of a matrix times a word as a column of eight bytes
unfoldable pub dot : List ℕ → ℕ → ℕ
dot r w = xor_sum 8 (λ j. mul (byte w j) (get_or r j 0))

-- 3.8: a matrix of eight rows times a word; byte i of the result comes from row i
unfoldable pub mix_by : List (List ℕ) → ℕ → ℕ
mix_by m w = join 8 (λ i. dot (get_or m i []) w)

-- 3.8: the word mixed by the row g
unfoldable pub mix : List ℕ → ℕ → ℕ
mix g w = mix_by (matrix g) w

-- 4.3: the coefficients of g(x) h(x) mod (x^8 + 1): x^j x^k is x^((j + k) mod 8)
unfoldable pub product : List ℕ → List ℕ → List ℕ
product g h = tabulate 8 (λ i. xor_sum 8 (λ j. xor_sum 8 (λ k. pick (eqb ((j + k) % 8) i) (mul (get_or g j 0) (get_or h k 0)))))

-- the XOR of a row's eight coefficients
unfoldable pub row_sum : List ℕ → ℕ
row_sum g = xor_sum 8 (λ i. get_or g i 0)

-- every byte of a word multiplied by c
unfoldable pub scale : ℕ → ℕ → ℕ
scale c w = each_byte (λ x. mul x c) w
