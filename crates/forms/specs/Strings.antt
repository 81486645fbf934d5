-- Byte strings as the modes of NIST read them: bit strings, the first byte first and in it the highest bit first. So the last byte of a
-- string is the least of the number that it is. One reading for every mode.
-- Assumes nothing.
use Rattle.std.specs.Prelude.{ℕ, ◌-◌, ◌*◌, Bool, true, false, ◌&&◌, List, [], ◌∷◌, eqb, length, get_or, take, drop}
use Rattle.std.specs.Int.Bits.{bit_xor}
use Rattle.forms.specs.Lists.{tabulate}
use Rattle.forms.specs.Words.{byte, join}

-- SP 800-38A, 4.2.2: the XOR of two strings; of strings that differ in length, as long as the shorter
unfoldable pub xor_bytes : List ℕ → List ℕ → List ℕ
xor_bytes [] ys = []
xor_bytes (x ∷ xs) [] = []
xor_bytes (x ∷ xs) (y ∷ ys) = bit_xor x y ∷ xor_bytes xs ys

-- the number that a string is the binary representation of
unfoldable pub number : List ℕ → ℕ
number xs = join (length xs) (λ i. get_or xs (length xs - 1 - i) 0)

-- SP 800-38A, 4.2.2: [v] with the subscript 8z, the string of z bytes that represents v modulo 2 ^ (8z)
unfoldable pub string : ℕ → ℕ → List ℕ
string z v = tabulate z (λ i. byte v (z - 1 - i))

-- block i of a string, i from 0: bytes zi to zi + z - 1
unfoldable pub block : ℕ → ℕ → List ℕ → List ℕ
block z i xs = take z (drop (i * z) xs)

-- whether two strings are the same, byte for byte
unfoldable pub same : List ℕ → List ℕ → Bool
same [] [] = true
same [] (y ∷ ys) = false
same (x ∷ xs) [] = false
same (x ∷ xs) (y ∷ ys) = eqb x y && same xs ys
