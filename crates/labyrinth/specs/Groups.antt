-- The code's own forms, which no reader has to believe: a group is 64 bytes whose blocks are worked side by side, four at n = 1, two at n = 2 and one at
-- n = 4. In a record of four words a half, block b of a group is words nb to nb + n - 1 of each half.
-- Assumes nothing.
use Rattle.std.specs.Prelude.{ℕ, ◌+◌, ◌-◌, ◌*◌, ◌/◌, ◌%◌, true, List, ◌++◌, eqb, ltb, get_or}
use Rattle.std.specs.Int.Bits.{bit_xor}
use Rattle.forms.specs.Lists.{tabulate, xor_sum, pick, when, words_from}
use Rattle.forms.specs.Words.{byte, join, rotl, rotr}
use Rattle.labyrinth.specs.declared.Halves.{Halves}
use Rattle.labyrinth.specs.Blocks.{Block, plus, minus, each, zip, load, store}
use Rattle.labyrinth.specs.Cipher.{IMix, rounds, exchange}
use Rattle.labyrinth.specs.Keys.{half}
use Rattle.labyrinth.specs.Working.{share, lookup_in}

-- block b of a group
unfoldable pub block_of : ℕ → ℕ → Halves → Block
block_of n b h = (words_from n (b * n) h.high, words_from n (b * n) h.low)

-- the group with f at each of its blocks
unfoldable pub besides : ℕ → (Block → Block) → Halves → Halves
besides n f h = record {
  high = tabulate 4 (λ i. get_or (f (block_of n (i / n) h)).0 (i % n) 0);
  low = tabulate 4 (λ i. get_or (f (block_of n (i / n) h)).1 (i % n) 0);
}

-- the eight words of a group as they stand in memory, of each block the low half and then the high one: taken apart, and back
unfoldable pub apart : ℕ → List ℕ → Halves
apart n x = record { high = tabulate 4 (λ i. get_or x (2 * i - i % n + n) 0); low = tabulate 4 (λ i. get_or x (2 * i - i % n) 0) }

unfoldable pub joined : ℕ → Halves → List ℕ
joined n h =
    tabulate 8
    (λ i. when (ltb (i % (2 * n)) n) (get_or h.low (i / (2 * n) * n + i % (2 * n)) 0) (get_or h.high (i / (2 * n) * n + i % (2 * n) - n) 0))

-- a substitution spaced out, each byte behind seven zeros: the word that is read k bytes before a byte is that byte at place k, and zeros
unfoldable pub spaced : List ℕ → List ℕ
spaced s = tabulate 2056 (λ i. pick (eqb (i % 8) 7) (get_or s (i / 8) 0))

-- the eight words that are read so for the bytes of a word, together
unfoldable pub spaced_sub : List ℕ → ℕ → ℕ
spaced_sub s w = xor_sum 8 (λ k. join 8 (λ b. get_or s (8 * byte w k + 7 - k + b) 0))

-- IT and FT with a map W of words where they have S, or its inverse, at each byte
unfoldable pub enter_by : (ℕ → ℕ) → ℕ → Block → Block → Block
enter_by W n k p =
    IMix n (each n (λ w. rotl w 2) (each n W (zip n plus p.0 k.0)), each n (λ w. rotr w 2) (each n W (zip n plus p.1 k.1)))

unfoldable pub leave_by : (ℕ → ℕ) → ℕ → Block → Block → Block
leave_by W n k s =
    let u : Block = IMix n s in
    (zip n minus (each n W (each n (λ w. rotr w 2) u.0)) k.0, zip n minus (each n W (each n (λ w. rotl w 2) u.1)) k.1)

-- EF under a schedule with such maps
unfoldable pub line_by : (ℕ → ℕ) → (ℕ → ℕ) → (ℕ → ℕ) → ℕ → List ℕ → Block → Block
line_by W W' SM n ks s =
    leave_by W' n (half n ks 19, half n ks 18) (exchange (rounds SM n (λ i. half n ks (i + 2)) 16 (enter_by W n (half n ks 1, half n ks 0) s)))

-- one block as its 2n words stand in memory, the low half and then the high one, with f at it
unfoldable pub in_memory : ℕ → (Block → Block) → List ℕ → List ℕ
in_memory n f x = let s : Block = f (words_from n n x, words_from n 0 x) in s.1 ++ s.0

-- look-up in the first four of eight tables: what bytes 4 to 7 add is rotated by four bytes, all at once
unfoldable pub lookup_four : List ℕ → ℕ → ℕ
lookup_four t w = bit_xor (xor_sum 4 (λ b. share true t b (byte w b))) (rotl (xor_sum 4 (λ b. share true t b (byte w (b + 4)))) 32)

-- the block map that the eight tables t, the spaced s and u and a schedule ks give, on blocks of 16n bytes
unfoldable pub wide_lent : ℕ → List ℕ → List ℕ → List ℕ → List ℕ → List ℕ → List ℕ
wide_lent n t s u ks b = store n (line_by (spaced_sub s) (spaced_sub u) (lookup_in true t) n ks (load n b))

-- and the one by the first four of them
unfoldable pub four_lent : ℕ → List ℕ → List ℕ → List ℕ → List ℕ → List ℕ → List ℕ
four_lent n t s u ks b = store n (line_by (spaced_sub s) (spaced_sub u) (lookup_four t) n ks (load n b))
