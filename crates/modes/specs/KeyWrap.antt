-- Key wrapping KW (NIST SP 800-38F, sections 6.1 and 6.2) over any block map: e is the forward cipher function CIPH, u the inverse one, each on
-- blocks of 16 bytes. A semiblock is 8 bytes. The values that step t works on are held as the one string A || R_2 || .. || R_n of n semiblocks.
-- Assumes nothing.
use Rattle.std.specs.Prelude.{ℕ, zero, suc, ◌-◌, ◌*◌, ◌/◌, Bool, List, ◌++◌, length, take, drop}
use Rattle.forms.specs.Strings.{xor_bytes, string, same}

-- MSB_64 of a string: its first semiblock
abbrev pub MSB64 : List ℕ → List ℕ
MSB64 x = take 8 x

-- LSB_64 of a block: its second semiblock
abbrev pub LSB64 : List ℕ → List ℕ
LSB64 b = drop 8 b

-- 6.1, algorithms 1 and 2, step 1: s is 6(n - 1), n being the number of semiblocks
unfoldable pub steps : List ℕ → ℕ
steps x = 6 * (length x / 8 - 1)

-- 6.1, algorithm 1, step 2 at t: A^t is MSB_64(CIPH(A || R_2)) XOR [t]_64; R_i^t is R_(i+1) for i = 2 to n - 1; R_n^t is LSB_64(CIPH(A || R_2))
unfoldable pub wrap_step : (List ℕ → List ℕ) → ℕ → List ℕ → List ℕ
wrap_step e t x =
    let b = e (take 16 x) in
    xor_bytes (MSB64 b) (string 8 t) ++ (drop 16 x ++ LSB64 b)

-- 6.1, algorithm 1, step 2: what the steps 1 to t make of a string
unfoldable pub wrap_steps : (List ℕ → List ℕ) → ℕ → List ℕ → List ℕ
wrap_steps e zero x = x
wrap_steps e (suc t) x = wrap_step e (suc t) (wrap_steps e t x)

-- 6.1, algorithm 1: W(S)
unfoldable pub W : (List ℕ → List ℕ) → List ℕ → List ℕ
W e x = wrap_steps e (steps x) x

-- 6.1, algorithm 2, step 2 at t: A^(t-1) is MSB_64(CIPH^-1((A XOR [t]_64) || R_n)); R_2^(t-1) is LSB_64 of the same; R_(i+1)^(t-1) is R_i for
-- i = 2 to n - 1
unfoldable pub unwrap_step : (List ℕ → List ℕ) → ℕ → List ℕ → List ℕ
unwrap_step u t x =
    let last = length x - 8 in
    let b = u (xor_bytes (MSB64 x) (string 8 t) ++ drop last x) in
    MSB64 b ++ (LSB64 b ++ drop 8 (take last x))

-- 6.1, algorithm 2, step 2: what the steps t, t - 1 down to 1 make of a string
unfoldable pub unwrap_steps : (List ℕ → List ℕ) → ℕ → List ℕ → List ℕ
unwrap_steps u zero x = x
unwrap_steps u (suc t) x = unwrap_steps u t (unwrap_step u (suc t) x)

-- 6.1, algorithm 2: the standard's inverse of W on a string C
unfoldable pub W⁻¹ : (List ℕ → List ℕ) → List ℕ → List ℕ
W⁻¹ u c = unwrap_steps u (steps c) c

-- 6.2, ICV1, the check value
unfoldable pub ICV1 : List ℕ
ICV1 = string 8 0xA6A6A6A6A6A6A6A6

-- 6.2, algorithm 3, KW-AE: C is W(ICV1 || P)
unfoldable pub wrapped : (List ℕ → List ℕ) → List ℕ → List ℕ
wrapped e p = W e (ICV1 ++ p)

-- 6.2, algorithm 4, KW-AD, step 3: FAIL unless MSB_64(S) is ICV1, S being what algorithm 2 makes of C
unfoldable pub authentic : (List ℕ → List ℕ) → List ℕ → Bool
authentic u c = same (MSB64 (W⁻¹ u c)) ICV1

-- 6.2, algorithm 4, KW-AD, step 4: P is LSB_64(n-1)(S), all semiblocks but the first
unfoldable pub unwrapped : (List ℕ → List ℕ) → List ℕ → List ℕ
unwrapped u c = drop 8 (W⁻¹ u c)
