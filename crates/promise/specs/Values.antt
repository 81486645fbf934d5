-- The starred values of document 01, 'Values to hold', as one table: what the definitions that the contracts cite give, beside what the
-- paper says, in its order. A value is a list: of one number, of words, or of bytes.
-- Assumes nothing.
use Rattle.std.specs.Prelude.{◌≡◌, ℕ, List, [], ◌∷◌, ◌++◌, get_or, replicate}
use Rattle.forms.specs.Lists.{tabulate}
use Rattle.forms.specs.Words.{words, bytes}
use Rattle.forms.specs.Strings.{string}
use Rattle.field.specs.Substitution.{sub, sub_inv}
use Rattle.field.specs.Field.{mul, power}
use Rattle.field.specs.Mixing.{mix}
use Rattle.field.specs.Published.{table1, row}
use Rattle.labyrinth.specs.Cipher.{article, P, SL, IMix}
use Rattle.labyrinth.specs.Keys.{delta, expanded_words, E}
use Rattle.labyrinth.specs.Refusals.{padded}
use Rattle.modes.specs.Ctr.{counter}
use Rattle.modes.specs.KeyWrap.{ICV1, wrap_steps}

-- the byte that byte i of P(n) comes from: the bytes 0, 1, 2, .. permuted show it
unfoldable pub from : ℕ → ℕ → ℕ
from n i = get_or (bytes n (P n (words n (tabulate 64 (λ k. k))))) i 0

unfoldable pub values : List (List ℕ × List ℕ)
values =
    -- S(00) = 2B, S(53) = 54, inverse S(00) = C5
    (sub table1 0x00 ∷ [], 0x2B ∷ [])
    ∷ (sub table1 0x53 ∷ [], 0x54 ∷ [])
    ∷ (sub_inv table1 0x00 ∷ [], 0xC5 ∷ [])
    -- 80 times 02 = 2D; 1A to the power 8 = 46
    ∷ (mul 0x80 0x02 ∷ [], 0x2D ∷ [])
    ∷ (power 0x1A 8 ∷ [], 0x46 ∷ [])
    -- mixing 0x1, 0x100, eight bytes 01
    ∷ (mix row 0x1 ∷ [], 0x0C0F1F0A0F030101 ∷ [])
    ∷ (mix row 0x100 ∷ [], 0x0F1F0A0F0301010C ∷ [])
    ∷ (mix row 0x0101010101010101 ∷ [], 0x1A1A1A1A1A1A1A1A ∷ [])
    -- SL of the zero word at t = 0, 1, 2, 3
    ∷ (SL article.SM 0 0 ∷ [], 0xC9C9C9C9C9C9C9C9 ∷ [])
    ∷ (SL article.SM 1 0 ∷ [], 0xD8D8D8D8D8D8D8D8 ∷ [])
    ∷ (SL article.SM 2 0 ∷ [], 0xEBEBEBEBEBEBEBEB ∷ [])
    ∷ (SL article.SM 3 0 ∷ [], 0x4141414141414141 ∷ [])
    -- a register step of word 0 and of the largest word
    ∷ (delta 1 (0 ∷ []), 0x54C0654C0654C065 ∷ [])
    ∷ (delta 1 (0xFFFFFFFFFFFFFFFF ∷ []), 0x54C0654C0654C064 ∷ [])
    -- IMix, n = 1, L = 1, R = 0: L, then R
    ∷ ((IMix 1 (1 ∷ [], 0 ∷ [])).0, 0x10000001 ∷ [])
    ∷ ((IMix 1 (1 ∷ [], 0 ∷ [])).1, 0x10000000 ∷ [])
    -- n = 2: byte 1 comes from byte 9; n = 4: byte 2 comes from byte 18
    ∷ (from 2 1 ∷ [], 9 ∷ [])
    ∷ (from 4 2 ∷ [], 18 ∷ [])
    -- CTR, n = 1, start all FF, q = 1: the counter of block 0 is all 00
    ∷ (counter 16 (replicate 16 0xFF) 1, replicate 16 0x00)
    ∷ []

-- every pair of a table is twice the same
unfoldable pub Holds : List (List ℕ × List ℕ) → Type 0
Holds [] = Unit {0}
Holds (p ∷ rest) = (p.0 ≡ p.1) × Holds rest

-- document 02, Job 8: A || R_2 || R_3 after the first step of W, of a key of 16 bytes 00 under the master key of 16 bytes 00 (n = 1, l = 2). The value is the
-- archivists' program's
abbrev pub FirstStep : Type 0
FirstStep =
    wrap_steps (E article 1 (padded (expanded_words article.SM 1 2 (replicate 16 0x00)))) 1 (ICV1 ++ replicate 16 0x00)
    ≡ string 8 0x7F9D5938C2BE9F07 ++ (string 8 0x0000000000000000 ++ string 8 0x34C39DAB8ADB1340)
