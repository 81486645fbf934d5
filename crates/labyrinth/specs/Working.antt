-- The code's own forms, which no reader has to believe: halves of at most four words in a record, and the subkeys laid out in the order of
-- their use, at most 80 words: IT low and high, the sixteen rounds, FT low and high. Laws tie them to the definitions.
-- Assumes nothing.
use Rattle.std.specs.Prelude.{◌≡◌, ℕ, ◌+◌, ◌*◌, ◌/◌, ◌%◌, ◌<◌, ◌≤◌, Bool, true, false, ◌&&◌, ◌||◌, List, [], ◌∷◌, ◌++◌, reverse, eqb, leb, ltb, get_or, length, take, drop, replicate}
use Rattle.forms.specs.Lists.{tabulate, xor_sum, pick}
use Rattle.forms.specs.Words.{byte, rotl, each_byte}
use Rattle.forms.specs.Refusals.{unless}
use Rattle.field.specs.Substitution.{sub}
use Rattle.field.specs.Mixing.{mix_by}
use Rattle.labyrinth.specs.declared.Halves.{Halves}
use Rattle.labyrinth.specs.Blocks.{Block, load, store}
use Rattle.labyrinth.specs.Cipher.{Parts, EF}
use Rattle.labyrinth.specs.Keys.{half, order, E, U}
use Rattle.labyrinth.specs.Refusals.{legal, block_refusal}

-- n is 1, 2 or 4, in a form that arithmetic reads
pub record Size (n : ℕ) : Type 0 where
  pub pos : 0 < n
  pub top : n ≤ 4
  pub not_three : n ≡ 3 → ⊥

-- what a key of k bytes that is taken has
pub record Taken (n l k : ℕ) : Type 0 where
  pub size : Size n
  pub low : 2 ≤ l
  pub top : l ≤ 4
  pub len : k ≡ 8 * (n * l)

-- a list of at most four words, with zeros behind it
unfoldable pub four_words : List ℕ → List ℕ
four_words x = take 4 (x ++ replicate 4 0)

-- a block of at most four words a half as the record holds it
unfoldable pub held : Block → Halves
held s = record { high = four_words s.0; low = four_words s.1 }

-- the block of n words a half that a record holds
unfoldable pub block_in : ℕ → Halves → Block
block_in n h = (take n h.high, take n h.low)

-- a record with a block in place of the n words of each half
unfoldable pub laid : ℕ → Block → Halves → Halves
laid n s h = record { high = s.0 ++ drop n h.high; low = s.1 ++ drop n h.low }

-- the record of two arrays
abbrev pub both : List ℕ → List ℕ → Halves
both l r = record { high = l; low = r }

-- f at the block of n words a half
unfoldable pub on_block : ℕ → (Block → Block) → Halves → Halves
on_block n f h = laid n (f (block_in n h)) h

-- n is legal, and a buffer has a block's length
unfoldable pub fits : ℕ → List ℕ → Bool
fits n buffer = legal n && eqb (length buffer) (16 * n)

-- the subkey numbers in the order of their use, enciphering (false) and deciphering (true)
unfoldable pub use_order : Bool → List ℕ
use_order false = 4 ∷ 7 ∷ (order ++ (3 ∷ 6 ∷ []))
use_order true = 3 ∷ 6 ∷ (reverse order ++ (4 ∷ 7 ∷ []))

-- the schedule of a working key; zeros for an illegal n
unfoldable pub schedule : ℕ → List ℕ → Bool → List ℕ
schedule n ws back =
    tabulate 80 (λ i. pick (legal n && ltb i (20 * n)) (get_or ws (get_or (use_order back) (i / n) 0 * n + i % n) 0))

-- EF under a schedule
unfoldable pub line : Parts → ℕ → List ℕ → Block → Block
line p n ks s = EF p n (half n ks 1, half n ks 0) (λ i. half n ks (i + 2)) (half n ks 19, half n ks 18) s

-- the block map of a schedule, on bytes
unfoldable pub line_bytes : Parts → ℕ → List ℕ → List ℕ → List ℕ
line_bytes p n ks b = store n (line p n ks (load n b))

-- a merged table is lent as it is, 256 words, or as eight tables of 256 words one after another, table b with its words rotated left by
-- 8b bits beforehand
unfoldable pub eight_tables : List ℕ → List ℕ
eight_tables t = tabulate 2048 (λ i. rotl (get_or t (i % 256) 0) (8 * (i / 256)))

unfoldable pub lendable : ℕ → Bool
lendable words = eqb words 256 || eqb words 2048

-- the wider forms pay for a string of so many bytes: 1 KiB and more (a choice of ours)
unfoldable pub pays : ℕ → Bool
pays count = leb 1024 count

-- how many words it has, and whether it is the eight tables
abbrev pub table_words : Bool → ℕ
table_words false = 256
table_words true = 2048

unfoldable pub wide : List ℕ → Bool
wide t = eqb (length t) 2048

-- what byte b of a word adds, its value being x, by a table or (true) by the eight
unfoldable pub share : Bool → List ℕ → ℕ → ℕ → ℕ
share false t b x = rotl (get_or t x 0) (8 * b)
share true t b x = get_or t (256 * b + x) 0

unfoldable pub lookup_in : Bool → List ℕ → ℕ → ℕ
lookup_in eight t w = xor_sum 8 (λ b. share eight t b (byte w b))

-- the parts by tables: a substitution, its inverse and a merged table in either form
unfoldable pub table_parts : List ℕ → List ℕ → List ℕ → Parts
table_parts s u t = record { S = sub s; S⁻¹ = sub u; SM = lookup_in (wide t) t }

-- the block operation with lent tables: a block's number, and then 5 for a table that is in neither form
unfoldable pub lent_refusal : ℕ → ℕ → ℕ → ℕ → ℕ
lent_refusal n source destination table =
    let r = block_refusal n source destination in
    unless (eqb r 0) r (unless (lendable table) 5 0)

-- the parts by a matrix: a substitution, its inverse and a matrix of eight rows
unfoldable pub matrix_parts : List ℕ → List ℕ → List (List ℕ) → Parts
matrix_parts s u m = record { S = sub s; S⁻¹ = sub u; SM = λ w. mix_by m (each_byte (sub s) w) }

-- E (false) or U (true)
abbrev pub way : Parts → Bool → ℕ → List ℕ → List ℕ → List ℕ
way p false n ws b = E p n ws b
way p true n ws b = U p n ws b
