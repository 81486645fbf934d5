-- A group as the blocks that it has: the three phases, each at all blocks side by side, make the line at each; and the 64 bytes are the blocks mapped one
-- after another.
-- Assumes nothing.
use mathlib.Core.Path.{◌≡◌, refl, sym, ap, ap₂, subst, ◌∙◌}
use mathlib.Core.Bool.{true}
use mathlib.Core.List.{List, [], ◌++◌}
use Prim.Native.Nat.{ℕ, zero, suc, ◌+◌, ◌-◌, ◌*◌, ◌/◌, ◌%◌, ◌≤◌, ◌<◌}
use native.Mathlib.Omega.{arith}
use lib.ListN.{length, get_or, take, drop}
use lib.Seq.{get_or-drop, get_or-take}
use Rattle.forms.specs.Lists.{tabulate, words_from}
use Rattle.forms.specs.Words.{words, bytes}
use Rattle.forms.specs.Mapped.{map_blocks, each_block}
use Rattle.forms.proofs.Lists.{get_d_tabulate, tabulated}
use Rattle.forms.proofs.Words.{join_cong}
use Rattle.forms.proofs.Bytes.{get_d_words, length_words}
use Rattle.labyrinth.specs.declared.Halves.{Halves}
use Rattle.labyrinth.specs.Blocks.{Block, load, store}
use Rattle.labyrinth.specs.Cipher.{rounds, exchange}
use Rattle.labyrinth.specs.Keys.{half}
use Rattle.labyrinth.specs.Working.{Size, lookup_in}
use Rattle.labyrinth.specs.Groups.{block_of, besides, apart, joined, spaced_sub, enter_by, leave_by, line_by, wide_lent}
use Rattle.labyrinth.proofs.Sizes.{sizes}
use Rattle.labyrinth.proofs.Rounds.{Sized, rounds_sized}
use Rattle.labyrinth.proofs.Groups.{exchange_sized, besides_high, besides_low, besides_besides, besides_exchange}
use Rattle.labyrinth.proofs.Spaced.{enter_sized}

-- ---- the three phases

pub group_phases : (W W' SM : ℕ → ℕ) (n : ℕ) → Size n → (ks : List ℕ) (h₀ : Halves) {h₁ h₂ h₃ h₄ : Halves}
    → h₁ ≡ besides n (enter_by W n (half n ks 1, half n ks 0)) h₀
    → h₂ ≡ besides n (rounds SM n (λ i. half n ks (i + 2)) 16) h₁
    → h₃ ≡ record { high = h₂.low; low = h₂.high }
    → h₄ ≡ besides n (leave_by W' n (half n ks 19, half n ks 18)) h₃
    → h₄ ≡ besides n (line_by W W' SM n ks) h₀
unfolding line_by
group_phases W W' SM n size ks h₀ {h₁} {h₂} {h₃} {h₄} p q r e =
    let a : h₂ ≡ besides n inner h₀ = q ∙ ap (besides n turned) p ∙ besides_besides n size turned first h₀ (λ b. enter_sized W n _ _) in
    let b : h₃ ≡ besides n (λ s. exchange (inner s)) h₀ =
    r ∙ besides_exchange n size h₂ (ap (λ (h : Halves). length h.high) q ∙ besides_high n turned h₁) (ap (λ (h : Halves). length h.low) q ∙ besides_low n turned h₁)
    ∙ ap (besides n exchange) a ∙ besides_besides n size exchange inner h₀ (λ b. sized _) in
    e ∙ ap (besides n (leave_by W' n (half n ks 19, half n ks 18))) b ∙ besides_besides n size _ (λ s. exchange (inner s)) h₀ (λ b. exchange_sized n _ (sized _))
  where
    first : Block → Block
    first = enter_by W n (half n ks 1, half n ks 0)

    turned : Block → Block
    turned = rounds SM n (λ i. half n ks (i + 2)) 16

    inner : Block → Block
    inner s = turned (first s)

    sized : (s : Block) → Sized n (inner s)
    sized s = rounds_sized SM n (λ i. half n ks (i + 2)) 16 (enter_sized W n _ s)

-- ---- where the words of a block stand

-- word j of block b of four words a half
there : (n : ℕ) → Size n → (b j : ℕ) → b * n < 4 → j < n → (b * n + j < 4) × (2 * (b * n + j) - (b * n + j) % n + n < 8)
    × (8 * (2 * (b * n + j) - (b * n + j) % n) ≡ 16 * n * b + 8 * j) × (8 * (2 * (b * n + j) - (b * n + j) % n + n) ≡ 16 * n * b + 8 * n + 8 * j)
there =
    sizes
    (λ n. (b j : ℕ) → b * n < 4 → j < n → (b * n + j < 4) × (2 * (b * n + j) - (b * n + j) % n + n < 8)
    × (8 * (2 * (b * n + j) - (b * n + j) % n) ≡ 16 * n * b + 8 * j) × (8 * (2 * (b * n + j) - (b * n + j) % n + n) ≡ 16 * n * b + 8 * n + 8 * j))
    (λ b j h l. (omega arith, omega arith, omega arith, omega arith)) (λ b j h l. (omega arith, omega arith, omega arith, omega arith))
    (λ b j h l. (omega arith, omega arith, omega arith, omega arith))

-- blocks that are left in a group, and the next one's bytes
inside : (n : ℕ) → Size n → (b k : ℕ) → (b + suc k) * n ≤ 4 → b * n < 4
inside = sizes (λ n. (b k : ℕ) → (b + suc k) * n ≤ 4 → b * n < 4) (λ b k h. omega arith) (λ b k h. omega arith) (λ b k h. omega arith)

further : (n : ℕ) → Size n → (b i : ℕ) → 16 * n * b + (16 * n + i) ≡ 16 * n * (b + 1) + i
further = sizes (λ n. (b i : ℕ) → 16 * n * b + (16 * n + i) ≡ 16 * n * (b + 1) + i) (λ b i. omega arith) (λ b i. omega arith) (λ b i. omega arith)

all_inside : (n : ℕ) → Size n → (0 + 64 / (16 * n)) * n ≤ 4
all_inside = sizes (λ n. (0 + 64 / (16 * n)) * n ≤ 4) (omega arith) (omega arith) (omega arith)

-- the bytes xs from block b on: that block is block b of the group
module _ (n : ℕ) (size : Size n) (bs xs : List ℕ) (b : ℕ) (h : b * n < 4) (e : (i : ℕ) → get_or xs i 0 ≡ get_or bs (16 * n * b + i) 0) where
  -- n words from byte d of the block, and where they stand in the group
  half_group : (d : ℕ) (at : ℕ → ℕ) → d ≤ 8 * n → ((j : ℕ) → j < n → (at (b * n + j) < 8) × (8 * at (b * n + j) ≡ 16 * n * b + d + 8 * j))
      → words n (drop d (take (16 * n) xs)) ≡ words_from n (b * n) (tabulate 4 (λ i. get_or (words 8 bs) (at i) 0))
  unfolding words_from
  half_group d at hd p =
      tabulated n (λ j. get_or (tabulate 4 W) (b * n + j) 0) 0 (words n (drop d (take (16 * n) xs))) (length_words n _)
      (λ j l. get_d_words n (drop d (take (16 * n) xs)) j l
      ∙ join_cong 8 (λ k. get_or (drop d (take (16 * n) xs)) (8 * j + k) 0) (λ k. get_or bs (8 * at (b * n + j) + k) 0)
      (λ k m. get_or-drop d (take (16 * n) xs) (8 * j + k) 0 ∙ get_or-take (16 * n) xs (d + (8 * j + k)) 0 (omega arith)
      ∙ e (d + (8 * j + k)) ∙ ap (λ (i : ℕ). get_or bs i 0) (omega (arith, (p j l).1)))
      ∙ sym (get_d_tabulate 4 W 0 (b * n + j) (there n size b j h l).0 ∙ get_d_words 8 bs (at (b * n + j)) (p j l).0))
    where
      W : ℕ → ℕ
      W i = get_or (words 8 bs) (at i) 0

  load_group : load n (take (16 * n) xs) ≡ block_of n b (apart n (words 8 bs))
  unfolding load block_of apart
  load_group = λ i. (
    half_group (8 * n) (λ i. 2 * i - i % n + n) (omega arith) (λ j l. let t = there n size b j h l in (t.1, t.3)) i,
    half_group 0 (λ i. 2 * i - i % n) (omega arith) (λ j l. let t = there n size b j h l in (omega (arith, t.1), omega (arith, t.2))) i,
  )

-- ---- all blocks of a group

module _ (n : ℕ) (f : Block → Block) where
  -- k blocks from block b on, mapped and laid one after another
  stored : ℕ → ℕ → Halves → List ℕ
  stored zero b h = []
  stored (suc k) b h = store n (f (block_of n b h)) ++ stored k (b + 1) h

  module _ (size : Size n) (bs : List ℕ) where
    mapped : (k b : ℕ) (xs : List ℕ) → (b + k) * n ≤ 4 → ((i : ℕ) → get_or xs i 0 ≡ get_or bs (16 * n * b + i) 0)
        → map_blocks (λ x. store n (f (load n x))) (16 * n) k xs ≡ stored k b (apart n (words 8 bs))
    unfolding map_blocks stored
    mapped zero b xs h e = refl
    mapped (suc k) b xs h e =
        ap₂ ◌++◌ (ap (λ (s : Block). store n (f s)) (load_group n size bs xs b (inside n size b k h) e))
        (mapped k (b + 1) (drop (16 * n) xs) (subst (λ (m : ℕ). m * n ≤ 4) (omega arith) h)
        (λ i. get_or-drop (16 * n) xs i 0 ∙ e (16 * n + i) ∙ ap (λ (j : ℕ). get_or bs j 0) (further n size b i)))

-- in a group they are its words, put together again
stored_joined : (n : ℕ) → Size n → (f : Block → Block) (h : Halves) → stored n f (64 / (16 * n)) 0 h ≡ bytes 8 (joined n (besides n f h))
unfolding stored store bytes joined besides tabulate
stored_joined = sizes (λ n. (f : Block → Block) (h : Halves) → stored n f (64 / (16 * n)) 0 h ≡ bytes 8 (joined n (besides n f h))) (λ f h. refl) (λ f h. refl) (λ f h. refl)

group_bytes : (n : ℕ) → Size n → (f : Block → Block) (bs : List ℕ) → length bs ≡ 64
    → each_block (λ x. store n (f (load n x))) (16 * n) bs ≡ bytes 8 (joined n (besides n f (apart n (words 8 bs))))
unfolding each_block
group_bytes n size f bs e =
    ap (λ (k : ℕ). map_blocks (λ x. store n (f (load n x))) (16 * n) (k / (16 * n)) bs) e
    ∙ mapped n f size bs (64 / (16 * n)) 0 bs (all_inside n size) (λ i. ap (λ (j : ℕ). get_or bs j 0) (omega arith))
    ∙ stored_joined n size f (apart n (words 8 bs))

-- so the words of a group, mapped, are its blocks mapped one after another
pub group_lent : (n : ℕ) → Size n → (t s u ks bs : List ℕ) {x y : List ℕ} → length bs ≡ 64 → x ≡ words 8 bs
    → y ≡ joined n (besides n (line_by (spaced_sub s) (spaced_sub u) (lookup_in true t) n ks) (apart n x)) → bytes 8 y ≡ each_block (wide_lent n t s u ks) (16 * n) bs
unfolding wide_lent
group_lent n size t s u ks bs e p q =
    let f : Block → Block = line_by (spaced_sub s) (spaced_sub u) (lookup_in true t) n ks in
    ap (bytes 8) (q ∙ ap (λ (x : List ℕ). joined n (besides n f (apart n x))) p) ∙ sym (group_bytes n size f bs e)
