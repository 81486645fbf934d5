-- The iterations of a group: one word by word, as the code makes it, and all of them.
-- Assumes nothing.
use Rattle.std.proofs.Common.{◌≡◌, ℕ, ◌+◌, ◌-◌, ◌*◌, ◌/◌, ◌%◌, ◌<◌, ◌≤◌, true, List, [], ◌∷◌, length, get_or, sym, ap, ◌∙◌, ap₂, mod-lt, add-one, arith}
use lib.Bits.{bit_xor}
use Rattle.forms.specs.Lists.{tabulate, xor_sum, words_from}
use Rattle.forms.specs.Words.{byte}
use Rattle.forms.proofs.Lists.{get_d_tabulate, tabulated}
use Rattle.field.specs.Published.{constants}
use Rattle.labyrinth.specs.declared.Halves.{Halves}
use Rattle.labyrinth.specs.Blocks.{plus, zip}
use Rattle.labyrinth.specs.Cipher.{P, SL, F, round, rounds}
use Rattle.labyrinth.specs.Keys.{half}
use Rattle.labyrinth.specs.Working.{Size, both, share, lookup_in}
use Rattle.labyrinth.specs.Groups.{block_of, besides}
use Rattle.labyrinth.proofs.Sizes.{sizes}
use Rattle.labyrinth.proofs.Blocks.{get_d_zip}
use Rattle.labyrinth.proofs.Rounds.{constant_last, rounds_sized}
use Rattle.labyrinth.proofs.Groups.{group_word, word_of, block_sized, besides_same, besides_besides}
use Rattle.group_rounds.proofs.Words.{by_four}

-- ---- one iteration

-- where word i + k of the block of word i stands
places : (n : ℕ) → Size n → (i k : ℕ) → i < 4
    → (i - i % n + (i + k) % n < 4) × (i - i % n + (i + k) % n ≡ i / n * n + (i % n + k) % n) × ((i - i % n + (i + k) % n) % n ≡ (i % n + k) % n)
places =
    sizes
    (λ n. (i k : ℕ) → i < 4
    → (i - i % n + (i + k) % n < 4) × (i - i % n + (i + k) % n ≡ i / n * n + (i % n + k) % n) × ((i - i % n + (i + k) % n) % n ≡ (i % n + k) % n))
    (λ i k h. (omega arith, omega arith, omega arith)) (λ i k h. (omega arith, omega arith, omega arith)) (λ i k h. (omega arith, omega arith, omega arith))

-- block b of the right half, with the key added
pub summed : ℕ → ℕ → List ℕ → List ℕ → ℕ → List ℕ
summed n at ks r b = zip n plus (words_from n (b * n) r) (words_from n at ks)

-- word j of it
sum_at : (n at : ℕ) (ks r : List ℕ) (b j : ℕ) → j < n → {p q a : ℕ} → a ≡ plus (get_or r p 0) (get_or ks q 0) → p ≡ b * n + j → q ≡ at + j → a ≡ get_or (summed n at ks r b) j 0
unfolding summed words_from
sum_at n at ks r b j h ea ep eq =
    ea ∙ ap₂ (λ (p q : ℕ). plus (get_or r p 0) (get_or ks q 0)) ep eq
    ∙ sym
    (get_d_zip n plus (words_from n (b * n) r) (words_from n at ks) j h
    ∙ ap₂ plus (get_d_tabulate n (λ j. get_or r (b * n + j) 0) 0 j h) (get_d_tabulate n (λ j. get_or ks (at + j) 0) 0 j h))

-- word i of the new right half
abbrev pub new_word : (ℕ → ℕ) → ℕ → ℕ → List ℕ → List ℕ → List ℕ → ℕ → ℕ
new_word SM n at ks l r i = get_or (round SM n (words_from n at ks) (block_of n (i / n) (both l r))).1 (i % n) 0

module _ (t : List ℕ) (n : ℕ) (size : Size n) (at : ℕ) (ks l r : List ℕ) where
  abbrev SM : ℕ → ℕ
  SM = lookup_in true t

  new_word_lem : (i : ℕ) → i < 4 → {v x : ℕ} → v ≡ bit_xor (get_or l i 0) (get_or constants (i % n) 0)
      → x ≡ bit_xor v (SM (get_or (P n (summed n at ks r (i / n))) (i % n) 0)) → x ≡ new_word SM n at ks l r i
  unfolding summed round block_of F SL
  new_word_lem i h ev ex =
      let j : ℕ = i % n in
      let k = (group_word n size i h).0 in
      let y = summed n at ks r (i / n) in
      ex ∙ ap (λ (v : ℕ). bit_xor v (SM (get_or (P n y) j 0))) ev
      ∙ constant_last (get_or l i 0) (get_or constants j 0) (SM (get_or (P n y) j 0))
      ∙ sym
      (get_d_zip n bit_xor (words_from n (i / n * n) l) (F SM n (words_from n at ks) (words_from n (i / n * n) r)) j k
      ∙ ap₂ bit_xor (word_of n size l i h) (get_d_tabulate n (λ t. SL SM t (get_or (P n y) t 0)) 0 j k))

  -- by the four words of its block from it on, with the key added to each
  pub by_words : {z c : List ℕ} → z ≡ tabulate 4 (λ i. plus (get_or r i 0) (get_or ks (at + i % n) 0)) → c ≡ constants
      → (i : ℕ) → i < 4 → {w x : ℕ} → w ≡ get_or l i 0
      → let b = i - i % n in
      x ≡ bit_xor (bit_xor w (get_or c (i % n) 0))
      (xor_sum 8
      (λ k. share true t k
      (byte (get_or (get_or z i 0 ∷ get_or z (b + (i + 1) % n) 0 ∷ get_or z (b + (i + 2) % n) 0 ∷ get_or z (b + (i + 3) % n) 0 ∷ []) (k % 4) 0) k)))
      → x ≡ new_word (lookup_in true t) n at ks l r i
  by_words {z} {c} ez ec i h {w} ew ex =
      new_word_lem i h (ap₂ (λ (w : ℕ) (c : List ℕ). bit_xor w (get_or c (i % n) 0)) ew ec)
      (ex
      ∙ ap (bit_xor (bit_xor w (get_or c (i % n) 0)))
      (by_four t n size (summed n at ks r (i / n)) (i % n) (group_word n size i h).0 (ap (λ (p : ℕ). get_or z p 0) itself ∙ turned 0) (turned 1) (turned 2) (turned 3)))
    where
      itself : i ≡ i - i % n + (i + 0) % n
      itself = sizes (λ n. i ≡ i - i % n + (i + 0) % n) (omega arith) (omega arith) (omega arith) n size

      turned : (k : ℕ) → get_or z (i - i % n + (i + k) % n) 0 ≡ get_or (summed n at ks r (i / n)) ((i % n + k) % n) 0
      turned k =
          let p = places n size i k h in
          sum_at n at ks r (i / n) ((i % n + k) % n) (mod-lt _ size.pos)
          (ap (λ (y : List ℕ). get_or y (i - i % n + (i + k) % n) 0) ez
          ∙ get_d_tabulate 4 (λ i. plus (get_or r i 0) (get_or ks (at + i % n) 0)) 0 (i - i % n + (i + k) % n) p.0)
          p.1 (ap (λ (q : ℕ). at + q) p.2)

  -- the halves of four such words
  pub new_halves : {y : List ℕ} → length r ≡ 4 → y ≡ tabulate 4 (new_word (lookup_in true t) n at ks l r) → both r y ≡ besides n (round (lookup_in true t) n (words_from n at ks)) (both l r)
  unfolding besides round block_of
  new_halves len e = ap₂ both (tabulated 4 _ 0 r len (λ i h. sym (word_of n size r i h))) e

-- ---- one after another

-- the places of an iteration's key words
pub key_room : (n : ℕ) → Size n → (i : ℕ) → i < 16 → (i + 2) * n + n ≤ 80
key_room = sizes (λ n. (i : ℕ) → i < 16 → (i + 2) * n + n ≤ 80) (λ i h. omega arith) (λ i h. omega arith) (λ i h. omega arith)

-- the iterations under the half-blocks of a schedule from the third on: i of them are done
abbrev pub Ran : (ℕ → ℕ) → ℕ → List ℕ → Halves → ℕ → Halves → Type 0
Ran SM n ks h₀ i h = h ≡ besides n (rounds SM n (λ i. half n ks (i + 2)) i) h₀

module _ (SM : ℕ → ℕ) (n : ℕ) (size : Size n) (ks : List ℕ) where
  pub ran_none : (l r : List ℕ) → length l ≡ 4 → length r ≡ 4 → Ran SM n ks (both l r) 0 (both l r)
  unfolding rounds
  ran_none l r a b = sym (besides_same n size (both l r) a b)

  module _ (h₀ : Halves) where
    K : ℕ → List ℕ
    K i = half n ks (i + 2)

    -- one more, its key words beginning at a place
    pub ran_more : (i : ℕ) {at : ℕ} {h h' : Halves} → at ≡ (i + 2) * n → h' ≡ besides n (round SM n (words_from n at ks)) h → Ran SM n ks h₀ i h → Ran SM n ks h₀ (i + 1) h'
    unfolding rounds words_from half K
    ran_more i {at} {h} place e p =
        e ∙ ap₂ (λ (a : ℕ) (x : Halves). besides n (round SM n (words_from n a ks)) x) place p
        ∙ besides_besides n size (round SM n (K i)) (rounds SM n K i) h₀ (λ b. rounds_sized SM n K i (block_sized n b h₀))
        ∙ ap (λ (k : ℕ). besides n (rounds SM n K k) h₀) (sym (add-one i))
