-- The code's own forms, which no reader has to believe: a map m at each block of z bytes of a string, by itself or after the one before. Laws of the modes tie
-- them to the definitions.
-- Assumes nothing.
use Rattle.std.specs.Prelude.{ℕ, zero, suc, ◌/◌, List, [], ◌++◌, length, take, drop}
use Rattle.forms.specs.Strings.{xor_bytes}

-- m at each block of z bytes of a string, one after another: at k blocks, and at all whole ones
unfoldable pub map_blocks : (List ℕ → List ℕ) → ℕ → ℕ → List ℕ → List ℕ
map_blocks m z zero xs = []
map_blocks m z (suc k) xs = m (take z xs) ++ map_blocks m z k (drop z xs)

unfoldable pub each_block : (List ℕ → List ℕ) → ℕ → List ℕ → List ℕ
each_block m z xs = map_blocks m z (length xs / z) xs

-- m at each of k blocks XOR what the one before it became, before the first stands c: all that they become, and the last
unfoldable pub chain_blocks : (List ℕ → List ℕ) → ℕ → ℕ → List ℕ → List ℕ → List ℕ
chain_blocks m z zero c xs = []
chain_blocks m z (suc k) c xs = let d = m (xor_bytes (take z xs) c) in d ++ chain_blocks m z k d (drop z xs)

unfoldable pub chain_last : (List ℕ → List ℕ) → ℕ → ℕ → List ℕ → List ℕ → List ℕ
chain_last m z zero c xs = c
chain_last m z (suc k) c xs = chain_last m z k (m (xor_bytes (take z xs) c)) (drop z xs)
