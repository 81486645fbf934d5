-- Laws of groups, blocks side by side: one map of their blocks after another, and what stands where.
-- Assumes nothing.
use mathlib.Core.Path.{◌≡◌, sym, ap, ap₂, ◌∙◌}
use mathlib.Core.List.{List}
use Prim.Native.Nat.{ℕ, ◌+◌, ◌*◌, ◌/◌, ◌%◌, ◌<◌}
use native.Mathlib.Omega.{arith}
use lib.ListN.{length, get_or}
use Rattle.forms.specs.Lists.{tabulate, words_from}
use Rattle.forms.proofs.Lists.{length_tabulate, get_d_tabulate, tabulate_cong, tabulated}
use Rattle.labyrinth.specs.declared.Halves.{Halves}
use Rattle.labyrinth.specs.Blocks.{Block}
use Rattle.labyrinth.specs.Cipher.{exchange}
use Rattle.labyrinth.specs.Working.{Size, both}
use Rattle.labyrinth.specs.Groups.{block_of, besides}
use Rattle.labyrinth.proofs.Sizes.{sizes}
use Rattle.labyrinth.proofs.Rounds.{Sized}

-- ---- places: word i of four is word i mod n of block i / n

-- word j of the block of word i
pub group_place : (n : ℕ) → Size n → (i j : ℕ) → i < 4 → j < n → (i / n * n + j < 4) × ((i / n * n + j) / n ≡ i / n) × ((i / n * n + j) % n ≡ j)
group_place =
    sizes (λ n. (i j : ℕ) → i < 4 → j < n → (i / n * n + j < 4) × ((i / n * n + j) / n ≡ i / n) × ((i / n * n + j) % n ≡ j))
    (λ i j h l. (omega arith, omega arith, omega arith)) (λ i j h l. (omega arith, omega arith, omega arith)) (λ i j h l. (omega arith, omega arith, omega arith))

-- a word by its block
pub group_word : (n : ℕ) → Size n → (i : ℕ) → i < 4 → (i % n < n) × (i / n * n + i % n ≡ i)
group_word =
    sizes (λ n. (i : ℕ) → i < 4 → (i % n < n) × (i / n * n + i % n ≡ i))
    (λ i h. (omega arith, omega arith)) (λ i h. (omega arith, omega arith)) (λ i h. (omega arith, omega arith))

-- ---- blocks of n words a half

pub block_sized : (n b : ℕ) (h : Halves) → Sized n (block_of n b h)
unfolding block_of words_from
block_sized n b h = record { left = length_tabulate n _; right = length_tabulate n _ }

pub exchange_sized : (n : ℕ) (s : Block) → Sized n s → Sized n (exchange s)
exchange_sized n s z = record { left = z.right; right = z.left }

-- ---- f at each block

pub besides_high : (n : ℕ) (f : Block → Block) (h : Halves) → length (besides n f h).high ≡ 4
unfolding besides
besides_high n f h = length_tabulate 4 _

pub besides_low : (n : ℕ) (f : Block → Block) (h : Halves) → length (besides n f h).low ≡ 4
unfolding besides
besides_low n f h = length_tabulate 4 _

-- maps that agree on the blocks of a group
pub besides_cong : (n : ℕ) (f g : Block → Block) (h : Halves) → ((i : ℕ) → i < 4 → f (block_of n (i / n) h) ≡ g (block_of n (i / n) h)) → besides n f h ≡ besides n g h
unfolding besides
besides_cong n f g h e =
    ap₂ both
    (tabulate_cong 4 (λ i. get_or (f (block_of n (i / n) h)).0 (i % n) 0) (λ i. get_or (g (block_of n (i / n) h)).0 (i % n) 0)
    (λ i l. ap (λ (s : Block). get_or s.0 (i % n) 0) (e i l)))
    (tabulate_cong 4 (λ i. get_or (f (block_of n (i / n) h)).1 (i % n) 0) (λ i. get_or (g (block_of n (i / n) h)).1 (i % n) 0)
    (λ i l. ap (λ (s : Block). get_or s.1 (i % n) 0) (e i l)))

module _ (n : ℕ) (size : Size n) where
  -- n words of four that are made block by block
  words_of : (y : ℕ → List ℕ) (i : ℕ) → i < 4 → length (y (i / n)) ≡ n → words_from n (i / n * n) (tabulate 4 (λ k. get_or (y (k / n)) (k % n) 0)) ≡ y (i / n)
  unfolding words_from
  words_of y i l e =
      sym
      (tabulated n (λ j. get_or (tabulate 4 F) (i / n * n + j) 0) 0 (y (i / n)) e
      (λ j h. let p = group_place n size i j l h in
      sym (get_d_tabulate 4 F 0 (i / n * n + j) p.0 ∙ ap₂ (λ (b k : ℕ). get_or (y b) k 0) p.1 p.2)))
    where
      F : ℕ → ℕ
      F k = get_or (y (k / n)) (k % n) 0

  -- a block of the group is f of the block
  pub block_besides : (f : Block → Block) (h : Halves) (i : ℕ) → i < 4 → Sized n (f (block_of n (i / n) h)) → block_of n (i / n) (besides n f h) ≡ f (block_of n (i / n) h)
  unfolding besides block_of
  block_besides f h i l z = λ k. (words_of (λ b. (f (block_of n b h)).0) i l z.left k, words_of (λ b. (f (block_of n b h)).1) i l z.right k)

  -- one map after another
  pub besides_besides : (f g : Block → Block) (h : Halves) → ((b : ℕ) → Sized n (g (block_of n b h))) → besides n f (besides n g h) ≡ besides n (λ s. f (g s)) h
  unfolding besides
  besides_besides f g h z =
      ap₂ both
      (tabulate_cong 4 (λ i. get_or (f (block_of n (i / n) (besides n g h))).0 (i % n) 0) (λ i. get_or (f (g (block_of n (i / n) h))).0 (i % n) 0)
      (λ i l. ap (λ (s : Block). get_or (f s).0 (i % n) 0) (block_besides g h i l (z (i / n)))))
      (tabulate_cong 4 (λ i. get_or (f (block_of n (i / n) (besides n g h))).1 (i % n) 0) (λ i. get_or (f (g (block_of n (i / n) h))).1 (i % n) 0)
      (λ i l. ap (λ (s : Block). get_or (f s).1 (i % n) 0) (block_besides g h i l (z (i / n)))))

  -- word i of a half
  pub word_of : (x : List ℕ) (i : ℕ) → i < 4 → get_or (words_from n (i / n * n) x) (i % n) 0 ≡ get_or x i 0
  unfolding words_from
  word_of x i l =
      let p = group_word n size i l in
      get_d_tabulate n (λ j. get_or x (i / n * n + j) 0) 0 (i % n) p.0 ∙ ap (λ (k : ℕ). get_or x k 0) p.1

  -- the blocks of a group as they are
  pub besides_same : (h : Halves) → length h.high ≡ 4 → length h.low ≡ 4 → besides n (λ s. s) h ≡ h
  unfolding besides block_of
  besides_same h a b = ap₂ both (sym (tabulated 4 _ 0 h.high a (λ i l. sym (word_of h.high i l)))) (sym (tabulated 4 _ 0 h.low b (λ i l. sym (word_of h.low i l))))

  -- the halves change places
  pub besides_exchange : (h : Halves) → length h.high ≡ 4 → length h.low ≡ 4 → ◌≡◌ {A = Halves} (record { high = h.low; low = h.high }) (besides n exchange h)
  unfolding besides block_of
  besides_exchange h a b = ap₂ both (tabulated 4 _ 0 h.low b (λ i l. sym (word_of h.low i l))) (tabulated 4 _ 0 h.high a (λ i l. sym (word_of h.high i l)))
