-- Counter mode (NIST SP 800-38A, section 6.5) over any block map e on blocks of z bytes. Sealing and opening are the same.
-- Assumes nothing.
use Rattle.std.specs.Prelude.{ℕ, zero, suc, ◌+◌, ◌-◌, ◌/◌, List, [], ◌++◌, length}
use Rattle.forms.specs.Strings.{xor_bytes, number, string}

-- B.1: the counter block: the start block plus v, modulo 2 ^ (8z)
unfoldable pub counter : ℕ → List ℕ → ℕ → List ℕ
counter z start v = string z (number start + v)

-- 6.5: m blocks of key stream, the first from the counter block of v: O_j is e of T_j
unfoldable pub key_stream : (List ℕ → List ℕ) → ℕ → List ℕ → ℕ → ℕ → List ℕ
key_stream e z start v zero = []
key_stream e z start v (suc m) = e (counter z start v) ++ key_stream e z start (v + 1) m

-- how many blocks k bytes fill, a last short one counted
unfoldable pub blocks : ℕ → ℕ → ℕ
blocks z k = (k + z - 1) / z

-- 6.5: C is P XOR O, a last short block with the first bytes of its O
unfoldable pub ctr : (List ℕ → List ℕ) → ℕ → List ℕ → ℕ → List ℕ → List ℕ
ctr e z start q p = xor_bytes p (key_stream e z start q (blocks z (length p)))
