-- Words and their bytes (the article's sections 1.1 and 2.1), little-endian: the numbering goes from the least weight to the greatest; and words in
-- buffers of bytes (document 01, 'Sizes and memory').
-- Assumes nothing.
use Rattle.std.specs.Prelude.{ℕ, zero, suc, ◌+◌, ◌-◌, ◌*◌, ◌/◌, ◌%◌, ◌^◌, List, get_or}
use Rattle.forms.specs.Lists.{tabulate}

-- 1.1: byte B_i of a number, which has the weight 2 ^ (8i)
unfoldable pub byte : ℕ → ℕ → ℕ
byte w i = w / 2 ^ (8 * i) % 2 ^ 8

-- 1.1: the number < B_(n-1) || .. || B_1 || B_0 >, B_i being b i; a word is `join 8 b`
unfoldable pub join : ℕ → (ℕ → ℕ) → ℕ
join zero b = 0
join (suc n) b = b n * 2 ^ (8 * n) + join n b

-- 2.1: a word rotated left by k bits, 0 ≤ k ≤ 63. It is the rotation for w < 2 ^ 64 and k ≤ 64, by 64 giving w; by more than 64 it gives w, whatever k
-- is; of w ≥ 2 ^ 64 it is none
unfoldable pub rotl : ℕ → ℕ → ℕ
rotl w k = w * 2 ^ k % 2 ^ 64 + w / 2 ^ (64 - k)

-- 2.1: a word rotated right by k bits, 0 ≤ k ≤ 63; for other w and k as rotl
unfoldable pub rotr : ℕ → ℕ → ℕ
rotr w k = w * 2 ^ (64 - k) % 2 ^ 64 + w / 2 ^ k

-- 2.2: f at each of the eight bytes of a word, as [S] with the superscript 8
unfoldable pub each_byte : (ℕ → ℕ) → ℕ → ℕ
each_byte f w = join 8 (λ i. f (byte w i))

-- document 01: 'Byte 0 in memory is the least byte of word 0': the n words whose bytes are given, and the 8n bytes of n words, the least first. It cites
-- 1.1, where < .. > shows the order 'in memory, the least on the right', and bytes are numbered by their weights; 1.1 names no addresses
unfoldable pub words : ℕ → List ℕ → List ℕ
words n bs = tabulate n (λ j. join 8 (λ b. get_or bs (8 * j + b) 0))

unfoldable pub bytes : ℕ → List ℕ → List ℕ
bytes n x = tabulate (8 * n) (λ i. byte (get_or x (i / 8) 0) (i % 8))
