-- The key schedule (the article's section 3.10) and the block map in both directions (3.1). A working key is n and a list of words,
-- of which k_j is words jn to jn + n - 1.
-- Assumes nothing.
use Rattle.std.specs.Prelude.{ℕ, zero, suc, ◌+◌, ◌-◌, ◌*◌, List, [], ◌∷◌, ◌++◌, get_or}
use Rattle.std.specs.Int.Bits.{bit_xor}
use Rattle.forms.specs.Lists.{tabulate, xor_sum}
use Rattle.forms.specs.Words.{rotl, words}
use Rattle.labyrinth.specs.Blocks.{plus, each, zip, load, store}
use Rattle.labyrinth.specs.Cipher.{Parts, F, EF}

-- half-block k_j of a list of words
unfoldable pub half : ℕ → List ℕ → ℕ → List ℕ
half n ws j = tabulate n (λ i. get_or ws (j * n + i) 0)

-- ---- 3.10: expansion of a key of l half-blocks

-- k_KS as it is first: the XOR of all uk_j, each word rotated left by 29
unfoldable pub register : ℕ → ℕ → List ℕ → List ℕ
register n l uk = tabulate n (λ i. rotl (xor_sum l (λ j. get_or uk (j * n + i) 0)) 29)

-- the function delta, the register's step
unfoldable pub delta : ℕ → List ℕ → List ℕ
delta n x = each n (λ w. bit_xor (plus w 0x1084210842108421) 0x4444444444444444) x

-- ks holds k_0 to k_(j-1), and m half-blocks more are to come: the register steps, then k_j is F of k_(j-1) under it, XOR k_(j-l)
unfoldable pub grow : (ℕ → ℕ) → ℕ → ℕ → ℕ → ℕ → List ℕ → List ℕ → List ℕ
grow SM n l j zero kKS ks = ks
grow SM n l j (suc m) kKS ks =
    let k = zip n bit_xor (F SM n (delta n kKS) (half n ks (j - 1))) (half n ks (j - l)) in
    grow SM n l (j + 1) m (delta n kKS) (ks ++ k)

-- the 8n words of the working key that the bytes of a key of l half-blocks give
unfoldable pub expanded_words : (ℕ → ℕ) → ℕ → ℕ → List ℕ → List ℕ
expanded_words SM n l key = let uk = words (n * l) key in grow SM n l l (8 - l) (register n l uk) uk

-- ---- 3.10: which subkey where

-- K^(i) is k_i for i = 0 to 7, and k_(3i mod 8) for i = 8 to 15
unfoldable pub order : List ℕ
order = 0 ∷ 1 ∷ 2 ∷ 3 ∷ 4 ∷ 5 ∷ 6 ∷ 7 ∷ 0 ∷ 3 ∷ 6 ∷ 1 ∷ 4 ∷ 7 ∷ 2 ∷ 5 ∷ []

-- 3.1, enciphering: K^IT = < k_7 || k_4 >, the order forwards, K^FT = < k_6 || k_3 >
unfoldable pub E : Parts → ℕ → List ℕ → List ℕ → List ℕ
E p n ws b = store n (EF p n (half n ws 7, half n ws 4) (λ i. half n ws (get_or order i 0)) (half n ws 6, half n ws 3) (load n b))

-- 3.1, deciphering: K^IT = < k_6 || k_3 >, the order backwards, K^FT = < k_7 || k_4 >
unfoldable pub U : Parts → ℕ → List ℕ → List ℕ → List ℕ
U p n ws b = store n (EF p n (half n ws 6, half n ws 3) (λ i. half n ws (get_or order (15 - i) 0)) (half n ws 7, half n ws 4) (load n b))
