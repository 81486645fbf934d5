-- Cipher block chaining (NIST SP 800-38A, section 6.2) over any block map: e is the forward cipher function CIPH, u the inverse one, each
-- on blocks of z bytes. Document 01 calls a mode of operation a run, encryption sealing, decryption opening and the initialisation vector
-- the start block.
-- Assumes nothing.
use Rattle.std.specs.Prelude.{ℕ, zero, suc, ◌/◌, List, [], ◌++◌, length, take, drop}
use Rattle.forms.specs.Strings.{xor_bytes, block}

-- m blocks sealed after the block c: C_j is e of P_j XOR C_(j-1)
unfoldable pub seal_blocks : (List ℕ → List ℕ) → ℕ → ℕ → List ℕ → List ℕ → List ℕ
seal_blocks e z zero c p = []
seal_blocks e z (suc m) c p = let d = e (xor_bytes (take z p) c) in d ++ seal_blocks e z m d (drop z p)

-- m blocks opened after the block c: P_j is u of C_j, XOR C_(j-1)
unfoldable pub open_blocks : (List ℕ → List ℕ) → ℕ → ℕ → List ℕ → List ℕ → List ℕ
open_blocks u z zero c s = []
open_blocks u z (suc m) c s = xor_bytes (u (take z s)) c ++ open_blocks u z m (take z s) (drop z s)

-- 6.2, CBC encryption of whole blocks: before the first stands the start block
unfoldable pub cbc_seal : (List ℕ → List ℕ) → ℕ → List ℕ → List ℕ → List ℕ
cbc_seal e z start p = seal_blocks e z (length p / z) start p

-- 6.2, CBC decryption
unfoldable pub cbc_open : (List ℕ → List ℕ) → ℕ → List ℕ → List ℕ → List ℕ
cbc_open u z start s = open_blocks u z (length s / z) start s

-- 6.2: C_(i-1) of a sealed run, i from 0: the block before block i, which is the start block before block 0
unfoldable pub before : ℕ → List ℕ → List ℕ → ℕ → List ℕ
before z start s zero = start
before z start s (suc i) = block z i s
