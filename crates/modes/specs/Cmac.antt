-- CMAC (NIST SP 800-38B) over any block map: e is the forward cipher function CIPH on blocks of 16 bytes, so b is 128. A message is of whole
-- bytes. Document 02 calls a MAC a tag, and the subkeys K1 and K2 masks.
-- Assumes nothing.
use Rattle.std.specs.Prelude.{ℕ, zero, suc, ◌-◌, ◌*◌, ◌^◌, Bool, List, ◌∷◌, ◌++◌, eqb, ltb, length, take, drop, replicate}
use Rattle.forms.specs.Lists.{when}
use Rattle.forms.specs.Strings.{xor_bytes, number, string, same}
use Rattle.modes.specs.Ctr.{blocks}

-- 6.1, steps 2 and 3: X << 1, the highest bit dropped and a 0 put behind; and that XOR R_128, which is 0x87 (5.3), if the highest bit,
-- MSB_1(X), is 1
unfoldable pub doubled : List ℕ → List ℕ
doubled x =
    let shifted = string 16 (2 * number x) in
    when (ltb (number x) (2 ^ 127)) shifted (xor_bytes shifted (string 16 0x87))

-- 6.1, steps 1 and 2: L is e of the block of zeros, and gives K1
unfoldable pub K1 : (List ℕ → List ℕ) → List ℕ
K1 e = doubled (e (replicate 16 0))

-- 6.1, step 3: K1 gives K2
unfoldable pub K2 : (List ℕ → List ℕ) → List ℕ
K2 e = doubled (K1 e)

-- 6.2, step 2: n, the number of blocks of a message of so many bytes; 1 for the empty one
unfoldable pub block_count : ℕ → ℕ
block_count zero = 1
block_count (suc k) = blocks 16 (suc k)

-- 6.2, step 4: M_n* with 1 0 .. 0 behind it, up to a whole block
unfoldable pub pad : List ℕ → List ℕ
pad last = last ++ 0x80 ∷ replicate (15 - length last) 0

-- 6.2, step 4: M_n is K1 XOR M_n* if that is a whole block, else K2 XOR the padded one
unfoldable pub last_block : List ℕ → List ℕ → List ℕ → List ℕ
last_block k1 k2 last = when (eqb (length last) 16) (xor_bytes k1 last) (xor_bytes k2 (pad last))

-- 6.2, step 6: m blocks chained after the block c: C_i is e of C_(i-1) XOR M_i
unfoldable pub chain : (List ℕ → List ℕ) → ℕ → List ℕ → List ℕ → List ℕ
chain e zero c p = c
chain e (suc m) c p = chain e m (e (xor_bytes c (take 16 p))) (drop 16 p)

-- 6.2, steps 1 to 6: C_n of a message, C_0 being the block of zeros; the blocks before the last stand as they are
unfoldable pub mac : (List ℕ → List ℕ) → List ℕ → List ℕ
mac e m =
    let n = block_count (length m) in
    let front = 16 * (n - 1) in
    chain e n (replicate 16 0) (take front m ++ last_block (K1 e) (K2 e) (drop front m))

-- 6.2, step 7: T is the first t bytes of C_n
unfoldable pub tag : (List ℕ → List ℕ) → ℕ → List ℕ → List ℕ
tag e t m = take t (mac e m)

-- 6.3: a tag is valid if it is the one that the message has at its length
unfoldable pub valid : (List ℕ → List ℕ) → List ℕ → List ℕ → Bool
valid e m given = same (tag e (length given) m) given
