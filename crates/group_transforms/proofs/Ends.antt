-- Laws for the two ends of the cipher on a group of blocks side by side, as the code goes through them; n is any size.
-- Assumes nothing.
use Rattle.std.proofs.Common.{◌≡◌, ℕ, zero, suc, ◌+◌, ◌-◌, ◌*◌, ◌/◌, ◌%◌, ◌<◌, ◌≤◌, Bool, ◌≢◌, List, length, get_or, set, sym, refl, ap, ◌∙◌, ap₂, arith, length-set, get_or-set_other, get_or-set_same, below_more, le-ltb, lt-ltb}
use native.Mathlib.Decide.{dec_lt}
use lib.Bits.{bit_xor}
use Rattle.forms.specs.Lists.{tabulate, when, words_from}
use Rattle.forms.specs.Words.{rotl, rotr}
use Rattle.forms.proofs.Lists.{get_d_tabulate, tabulate_cong, tabulated}
use Rattle.forms.proofs.Words.{rotr_rotl}
use Rattle.labyrinth.specs.declared.Halves.{Halves}
use Rattle.labyrinth.specs.Blocks.{Block, plus, minus, each, zip}
use Rattle.labyrinth.specs.Cipher.{sigma, IMix}
use Rattle.labyrinth.specs.Keys.{half}
use Rattle.labyrinth.specs.Working.{Size, both}
use Rattle.labyrinth.specs.Groups.{block_of, besides, apart, joined, enter_by, leave_by}
use Rattle.labyrinth.proofs.Sizes.{sizes}
use Rattle.labyrinth.proofs.Blocks.{length_each, get_or_each, get_d_zip}
use Rattle.labyrinth.proofs.Rounds.{Sized}
use Rattle.labyrinth.proofs.Ends.{imix_sized}
use Rattle.labyrinth.proofs.Groups.{group_word, word_of, besides_besides}

-- ---- places: of the eight words, word j of the low halves and word j of the high ones

abbrev low_place : ℕ → ℕ → ℕ
low_place n j = 2 * j - j % n

abbrev high_place : ℕ → ℕ → ℕ
high_place n j = 2 * j - j % n + n

pub place_in : (n : ℕ) → Size n → (j : ℕ) → j < 4 → (j % n ≤ j) × (high_place n j < 8)
place_in =
    sizes (λ n. (j : ℕ) → j < 4 → (j % n ≤ j) × (high_place n j < 8))
    (λ j l. (omega arith, omega arith)) (λ j l. (omega arith, omega arith)) (λ j l. (omega arith, omega arith))

-- in a block
place_mod : (n : ℕ) → Size n → (j : ℕ) → j < 4 → (low_place n j % (2 * n) ≡ j % n) × (high_place n j % (2 * n) ≡ n + j % n)
place_mod =
    sizes (λ n. (j : ℕ) → j < 4 → (low_place n j % (2 * n) ≡ j % n) × (high_place n j % (2 * n) ≡ n + j % n))
    (λ j l. (omega arith, omega arith)) (λ j l. (omega arith, omega arith)) (λ j l. (omega arith, omega arith))

-- the word that stands at place i, in a low half or, n more, in a high one
abbrev word_at : ℕ → ℕ → ℕ
word_at n i = i / (2 * n) * n + i % (2 * n)

low_word : (n : ℕ) → Size n → (j : ℕ) → j < 4 → word_at n (low_place n j) ≡ j
low_word = sizes (λ n. (j : ℕ) → j < 4 → word_at n (low_place n j) ≡ j) (λ j l. omega arith) (λ j l. omega arith) (λ j l. omega arith)

-- places of other words are others
low_one : (n : ℕ) → Size n → (k j : ℕ) → k < 4 → j < 4 → low_place n k ≡ low_place n j → k ≡ j
low_one n s k j h l e = sym (low_word n s k h) ∙ ap (word_at n) e ∙ low_word n s j l

low_high : (n : ℕ) → Size n → (k j : ℕ) → k < 4 → j < 4 → low_place n k ≢ high_place n j
low_high n s k j h l e =
    omega (arith, sym (place_mod n s k h).0 ∙ ap (λ (x : ℕ). x % (2 * n)) e ∙ (place_mod n s j l).1, (group_word n s k h).0)

at_low : (n : ℕ) → Size n → (i : ℕ) → i < 8 → i % (2 * n) < n → (word_at n i < 4) × (low_place n (word_at n i) ≡ i) × (word_at n i % n ≡ i % (2 * n))
at_low =
    sizes (λ n. (i : ℕ) → i < 8 → i % (2 * n) < n → (word_at n i < 4) × (low_place n (word_at n i) ≡ i) × (word_at n i % n ≡ i % (2 * n)))
    (λ i l h. (omega arith, omega arith, omega arith)) (λ i l h. (omega arith, omega arith, omega arith)) (λ i l h. (omega arith, omega arith, omega arith))

at_high : (n : ℕ) → Size n → (i : ℕ) → i < 8 → n ≤ i % (2 * n)
    → (word_at n i - n < 4) × (high_place n (word_at n i - n) ≡ i) × (n + (word_at n i - n) % n ≡ i % (2 * n))
at_high =
    sizes (λ n. (i : ℕ) → i < 8 → n ≤ i % (2 * n) → (word_at n i - n < 4) × (high_place n (word_at n i - n) ≡ i) × (n + (word_at n i - n) % n ≡ i % (2 * n)))
    (λ i l h. (omega arith, omega arith, omega arith)) (λ i l h. (omega arith, omega arith, omega arith)) (λ i l h. (omega arith, omega arith, omega arith))

-- where IMix reads Sigma
abbrev before : ℕ → ℕ → ℕ
before n i = i - i % n + (i + n - 1) % n

pub before_in : (n : ℕ) → Size n → (i : ℕ) → i < 4 → (before n i < 4) × (before n i / n ≡ i / n) × (before n i % n ≡ (i % n + n - 1) % n)
before_in =
    sizes (λ n. (i : ℕ) → i < 4 → (before n i < 4) × (before n i / n ≡ i / n) × (before n i % n ≡ (i % n + n - 1) % n))
    (λ i l. (omega arith, omega arith, omega arith)) (λ i l. (omega arith, omega arith, omega arith)) (λ i l. (omega arith, omega arith, omega arith))

-- ---- IMix

sigma_zero : (s : Block) (m : ℕ) → m ≡ 0 → rotl (bit_xor (get_or s.0 m 0) (get_or s.1 m 0)) 28 ≡ sigma s m
unfolding sigma
sigma_zero s zero e = refl
sigma_zero s (suc m) e = let z : ⊥ = omega arith in absurd z

sigma_other : (s : Block) (m : ℕ) → m ≢ 0 → bit_xor (get_or s.0 m 0) (get_or s.1 m 0) ≡ sigma s m
unfolding sigma
sigma_other s zero n = absurd (n refl)
sigma_other s (suc m) n = refl

-- a word of IMix, Sigma of all blocks being d
abbrev pub mixed : ℕ → List ℕ → List ℕ → ℕ → ℕ
mixed n d x i = bit_xor (get_or x i 0) (get_or d (i - i % n + (i + n - 1) % n) 0)

module _ (n : ℕ) (size : Size n) (l r : List ℕ) where
  abbrev block : ℕ → Block
  block i = block_of n (i / n) (both l r)

  word_left : (i : ℕ) → i < 4 → get_or (block i).0 (i % n) 0 ≡ get_or l i 0
  unfolding block_of
  word_left i h = word_of n size l i h

  word_right : (i : ℕ) → i < 4 → get_or (block i).1 (i % n) 0 ≡ get_or r i 0
  unfolding block_of
  word_right i h = word_of n size r i h

  -- a word of Sigma, the first of its block and another
  pub sigma_first : (j : ℕ) {v : ℕ} → j < 4 → j % n ≡ 0 → v ≡ rotl (bit_xor (get_or l j 0) (get_or r j 0)) 28 → v ≡ sigma (block j) (j % n)
  sigma_first j h z e =
      e ∙ ap₂ (λ (x y : ℕ). rotl (bit_xor x y) 28) (sym (word_left j h)) (sym (word_right j h)) ∙ sigma_zero (block j) (j % n) z

  pub sigma_later : (j : ℕ) {v : ℕ} → j < 4 → j % n ≢ 0 → v ≡ bit_xor (get_or l j 0) (get_or r j 0) → v ≡ sigma (block j) (j % n)
  sigma_later j h z e = e ∙ ap₂ bit_xor (sym (word_left j h)) (sym (word_right j h)) ∙ sigma_other (block j) (j % n) z

  module _ {d : List ℕ} (is : d ≡ tabulate 4 (λ j. sigma (block j) (j % n))) where
    read : (i : ℕ) → i < 4 → get_or d (before n i) 0 ≡ sigma (block i) ((i % n + n - 1) % n)
    read i h =
        let p = before_in n size i h in
        ap (λ (x : List ℕ). get_or x (before n i) 0) is ∙ get_d_tabulate 4 (λ j. sigma (block j) (j % n)) 0 (before n i) p.0
        ∙ ap₂ (λ (b m : ℕ). sigma (block_of n b (both l r)) m) p.1 p.2

    -- IMix by its words
    pub imixed : {a b : List ℕ} → a ≡ tabulate 4 (mixed n d l) → b ≡ tabulate 4 (mixed n d r) → both a b ≡ besides n (IMix n) (both l r)
    unfolding besides IMix
    imixed p q =
        ap₂ both (p ∙ tabulate_cong 4 (mixed n d l) _ (λ i h. word (λ s. s.0) l i h (word_left i h)))
        (q ∙ tabulate_cong 4 (mixed n d r) _ (λ i h. word (λ s. s.1) r i h (word_right i h)))
      where
        word : (side : Block → List ℕ) (x : List ℕ) (i : ℕ) → i < 4 → get_or (side (block i)) (i % n) 0 ≡ get_or x i 0
            → mixed n d x i ≡ get_or (zip n bit_xor (side (block i)) (tabulate n (λ j. sigma (block i) ((j + n - 1) % n)))) (i % n) 0
        word side x i h e =
            let w = (group_word n size i h).0 in
            ap₂ bit_xor (sym e) (read i h)
            ∙ sym (get_d_zip n bit_xor _ _ (i % n) w ∙ ap (bit_xor (get_or (side (block i)) (i % n) 0)) (get_d_tabulate n (λ j. sigma (block i) ((j + n - 1) % n)) 0 (i % n) w))

-- ---- words laid as in memory

-- eight words are the halves h laid together, by their words
joined_by : (n : ℕ) → Size n → (h : Halves) (f : ℕ → ℕ)
    → ((i : ℕ) → i < 8 → i % (2 * n) < n → f i ≡ get_or h.low (word_at n i) 0) → ((i : ℕ) → i < 8 → n ≤ i % (2 * n) → f i ≡ get_or h.high (word_at n i - n) 0)
    → tabulate 8 f ≡ joined n h
unfolding joined
joined_by n size h f low high =
    tabulate_cong 8 f _
    (λ i l. elim (dec_lt (i % (2 * n)) n) [
      | yes p ↦ low i l p ∙ ap (λ (t : Bool). when t (get_or h.low (word_at n i) 0) (get_or h.high (word_at n i - n) 0)) (sym (lt-ltb (i % (2 * n)) n p))
      | no p ↦ (let g : n ≤ i % (2 * n) = omega arith in high i l g ∙ ap (λ (t : Bool). when t (get_or h.low (word_at n i) 0) (get_or h.high (word_at n i - n) 0)) (sym (le-ltb (i % (2 * n)) n g)))
    ])

-- and read there
module _ (n : ℕ) (h : Halves) (i : ℕ) (inside : i < 8) where
  joined_low : i % (2 * n) < n → get_or (joined n h) i 0 ≡ get_or h.low (word_at n i) 0
  unfolding joined
  joined_low p = get_d_tabulate 8 _ 0 i inside ∙ ap (λ (t : Bool). when t (get_or h.low (word_at n i) 0) (get_or h.high (word_at n i - n) 0)) (lt-ltb (i % (2 * n)) n p)

  joined_high : n ≤ i % (2 * n) → get_or (joined n h) i 0 ≡ get_or h.high (word_at n i - n) 0
  unfolding joined
  joined_high p = get_d_tabulate 8 _ 0 i inside ∙ ap (λ (t : Bool). when t (get_or h.low (word_at n i) 0) (get_or h.high (word_at n i - n) 0)) (le-ltb (i % (2 * n)) n p)

-- the first j words of the two halves are laid
pub record Laid (n : ℕ) (h : Halves) (j : ℕ) (x : List ℕ) : Type 0 where
  pub len : length x ≡ 8
  pub low : (k : ℕ) → k < j → get_or x (2 * k - k % n) 0 ≡ get_or h.low k 0
  pub high : (k : ℕ) → k < j → get_or x (2 * k - k % n + n) 0 ≡ get_or h.high k 0

module _ (n : ℕ) (size : Size n) (h : Halves) where
  pub laid_more : (j : ℕ) {x : List ℕ} {v w : ℕ} → j < 4 → v ≡ get_or h.low j 0 → w ≡ get_or h.high j 0
      → Laid n h j x → Laid n h (j + 1) (set (set x (2 * j - j % n) v) (2 * j - j % n + n) w)
  laid_more j {x} {v} {w} l e f p = record {
    len = length-set y (high_place n j) w ∙ long;
    low =
        below_more (λ k. get_or (set y (high_place n j) w) (low_place n k) 0 ≡ get_or h.low k 0) j
        (λ k g. get_or-set_other y (high_place n j) (low_place n k) w 0 (low_high n size k j (omega arith) l)
        ∙ get_or-set_other x (low_place n j) (low_place n k) v 0 (λ q. let z : k ≡ j = low_one n size k j (omega arith) l q in omega arith)
        ∙ p.low k g)
        (get_or-set_other y (high_place n j) (low_place n j) w 0 (low_high n size j j l l) ∙ get_or-set_same x (low_place n j) v 0 (omega (arith, p.len, (place_in n size j l).1)) ∙ e);
    high =
        below_more (λ k. get_or (set y (high_place n j) w) (high_place n k) 0 ≡ get_or h.high k 0) j
        (λ k g. get_or-set_other y (high_place n j) (high_place n k) w 0 (λ q. let z : k ≡ j = low_one n size k j (omega arith) l (omega arith) in omega arith)
        ∙ get_or-set_other x (low_place n j) (high_place n k) v 0 (λ q. low_high n size j k l (omega arith) (sym q))
        ∙ p.high k g)
        (get_or-set_same y (high_place n j) w 0 (omega (arith, long, (place_in n size j l).1)) ∙ f);
  }
    where
      y : List ℕ
      y = set x (low_place n j) v

      long : length y ≡ 8
      long = length-set x (low_place n j) v ∙ p.len

  pub laid_all : {j : ℕ} {x : List ℕ} → j ≡ 4 → Laid n h j x → x ≡ joined n h
  laid_all {j} {x} e p =
      tabulated 8 (λ i. get_or x i 0) 0 x p.len (λ i l. refl)
      ∙ joined_by n size h (λ i. get_or x i 0)
      (λ i l g. let q = at_low n size i l g in ap (λ (k : ℕ). get_or x k 0) (sym q.1) ∙ p.low (word_at n i) (omega (arith, q.0)))
      (λ i l g. let q = at_high n size i l g in ap (λ (k : ℕ). get_or x k 0) (sym q.1) ∙ p.high (word_at n i - n) (omega (arith, q.0)))

-- ---- IT and FT

module _ (W : ℕ → ℕ) (n : ℕ) (size : Size n) (ks : List ℕ) where
  key : (m j : ℕ) → j < n → get_or (half n ks m) j 0 ≡ get_or ks (m * n + j) 0
  unfolding half
  key m j l = get_d_tabulate n (λ i. get_or ks (m * n + i) 0) 0 j l

  -- word i of the four, a half of its block being keyed, substituted and rotated
  in_word_lem : (turn : ℕ → ℕ) (m : ℕ) (x : List ℕ) (i : ℕ) → i < 4
      → get_or (each n turn (each n W (zip n plus (words_from n (i / n * n) x) (half n ks m)))) (i % n) 0 ≡ turn (W (plus (get_or x i 0) (get_or ks (m * n + i % n) 0)))
  in_word_lem turn m x i l =
      let w = (group_word n size i l).0 in
      get_or_each n turn _ (i % n) w
      ∙ ap turn (get_or_each n W _ (i % n) w ∙ ap W (get_d_zip n plus _ _ (i % n) w ∙ ap₂ plus (word_of n size x i l) (key m (i % n) w)))

  -- and rotated, substituted and unkeyed
  out_word_lem : (turn : ℕ → ℕ) (m : ℕ) (x : List ℕ) (i : ℕ) → i < 4
      → get_or (zip n minus (each n W (each n turn (words_from n (i / n * n) x))) (half n ks m)) (i % n) 0 ≡ minus (W (turn (get_or x i 0))) (get_or ks (m * n + i % n) 0)
  out_word_lem turn m x i l =
      let w = (group_word n size i l).0 in
      get_d_zip n minus _ _ (i % n) w
      ∙ ap₂ minus (get_or_each n W _ (i % n) w ∙ ap W (get_or_each n turn _ (i % n) w ∙ ap turn (word_of n size x i l))) (key m (i % n) w)

  -- a block on its way in, before IMix
  entering : Block → Block
  entering p = (
    each n (λ w. rotl w 2) (each n W (zip n plus p.0 (half n ks 1))),
    each n (λ w. rotr w 2) (each n W (zip n plus p.1 (half n ks 0))),
  )

  entering_sized : (p : Block) → Sized n (entering p)
  unfolding entering
  entering_sized p = record { left = length_each n _ _; right = length_each n _ _ }

  -- the eight words keyed, the halves taken from them with their rotations, then IMix of each block: IT of each block
  pub entered : (x : List ℕ) {y l r : List ℕ} {h : Halves}
      → y ≡ tabulate 8 (λ i. W (plus (get_or x i 0) (get_or ks (i % (2 * n)) 0)))
      → l ≡ tabulate 4 (λ j. rotl (get_or y (2 * j - j % n + n) 0) 2) → r ≡ tabulate 4 (λ j. rotl (get_or y (2 * j - j % n + 0) 0) 62)
      → h ≡ besides n (IMix n) (both l r) → h ≡ besides n (enter_by W n (half n ks 1, half n ks 0)) (apart n x)
  unfolding enter_by entering besides block_of apart
  entered x {y} {l} {r} ey el er eh =
      eh ∙ ap (besides n (IMix n)) halves ∙ besides_besides n size (IMix n) entering (apart n x) (λ b. entering_sized _)
    where
      word : (place m : ℕ) → place < 8 → place % (2 * n) ≡ m → get_or y place 0 ≡ W (plus (get_or x place 0) (get_or ks m 0))
      word place m h e =
          ap (λ (z : List ℕ). get_or z place 0) ey ∙ get_d_tabulate 8 (λ i. W (plus (get_or x i 0) (get_or ks (i % (2 * n)) 0))) 0 place h
          ∙ ap (λ (k : ℕ). W (plus (get_or x place 0) (get_or ks k 0))) e

      high : (j : ℕ) → j < 4 → rotl (get_or y (high_place n j) 0) 2 ≡ get_or (entering (block_of n (j / n) (apart n x))).0 (j % n) 0
      high j h =
          let p = place_in n size j h in
          let e : high_place n j % (2 * n) ≡ 1 * n + j % n = omega (arith, (place_mod n size j h).1) in
          ap (λ (w : ℕ). rotl w 2) (word (high_place n j) (1 * n + j % n) p.1 e)
          ∙ sym (in_word_lem (λ w. rotl w 2) 1 (apart n x).high j h
          ∙ ap (λ (w : ℕ). rotl (W (plus w (get_or ks (1 * n + j % n) 0))) 2) (get_d_tabulate 4 (λ i. get_or x (high_place n i) 0) 0 j h))

      low : (j : ℕ) → j < 4 → rotl (get_or y (low_place n j + 0) 0) 62 ≡ get_or (entering (block_of n (j / n) (apart n x))).1 (j % n) 0
      low j h =
          let p = place_in n size j h in
          let z : low_place n j + 0 ≡ low_place n j = omega arith in
          let e : low_place n j % (2 * n) ≡ 0 * n + j % n = omega (arith, (place_mod n size j h).0) in
          sym (rotr_rotl (get_or y (low_place n j + 0) 0) 2 (omega arith))
          ∙ ap (λ (k : ℕ). rotr (get_or y k 0) 2) z
          ∙ ap (λ (w : ℕ). rotr w 2) (word (low_place n j) (0 * n + j % n) (omega arith) e)
          ∙ sym (in_word_lem (λ w. rotr w 2) 0 (apart n x).low j h
          ∙ ap (λ (w : ℕ). rotr (W (plus w (get_or ks (0 * n + j % n) 0))) 2) (get_d_tabulate 4 (λ i. get_or x (low_place n i) 0) 0 j h))

      halves : both l r ≡ besides n entering (apart n x)
      halves = ap₂ both (el ∙ tabulate_cong 4 _ _ high) (er ∙ tabulate_cong 4 _ _ low)

  -- a block on its way out, after IMix
  leaving : Block → Block
  leaving u = (
    zip n minus (each n W (each n (λ w. rotr w 2) u.0)) (half n ks 19),
    zip n minus (each n W (each n (λ w. rotl w 2) u.1)) (half n ks 18),
  )

  -- IMix of each block, the halves laid together with their rotations undone, then the eight words unkeyed: FT of each block
  pub left : (h : Halves) {u : Halves} {x z : List ℕ}
      → u ≡ besides n (IMix n) h → x ≡ joined n (both (each 4 (λ w. rotl w 62) u.high) (each 4 (λ w. rotl w 2) u.low))
      → z ≡ tabulate 8 (λ i. minus (W (get_or x i 0)) (get_or ks (18 * n + i % (2 * n)) 0)) → z ≡ joined n (besides n (leave_by W n (half n ks 19, half n ks 18)) h)
  unfolding leave_by leaving besides block_of
  left h {u} {x} {z} eu ex ez =
      ez ∙ joined_by n size (besides n leaving u) word low high
      ∙ ap (joined n) (ap (besides n leaving) eu ∙ besides_besides n size leaving (IMix n) h (λ b. imix_sized n _))
    where
      word : ℕ → ℕ
      word i = minus (W (get_or x i 0)) (get_or ks (18 * n + i % (2 * n)) 0)

      turned : Halves
      turned = both (each 4 (λ w. rotl w 62) u.high) (each 4 (λ w. rotl w 2) u.low)

      low : (i : ℕ) → i < 8 → i % (2 * n) < n → word i ≡ get_or (besides n leaving u).low (word_at n i) 0
      low i l p =
          let q = at_low n size i l p in
          ap₂ (λ (v k : ℕ). minus (W v) (get_or ks (18 * n + k) 0))
          (ap (λ (y : List ℕ). get_or y i 0) ex ∙ joined_low n turned i l p ∙ get_or_each 4 (λ w. rotl w 2) u.low (word_at n i) q.0) (sym q.2)
          ∙ sym (get_d_tabulate 4 _ 0 (word_at n i) q.0 ∙ out_word_lem (λ w. rotl w 2) 18 u.low (word_at n i) q.0)

      high : (i : ℕ) → i < 8 → n ≤ i % (2 * n) → word i ≡ get_or (besides n leaving u).high (word_at n i - n) 0
      high i l p =
          let q = at_high n size i l p in
          let k : 18 * n + i % (2 * n) ≡ 19 * n + (word_at n i - n) % n = omega (arith, q.2) in
          ap₂ (λ (v k : ℕ). minus (W v) (get_or ks k 0))
          (ap (λ (y : List ℕ). get_or y i 0) ex ∙ joined_high n turned i l p ∙ get_or_each 4 (λ w. rotl w 62) u.high (word_at n i - n) q.0
          ∙ sym (rotr_rotl (get_or u.high (word_at n i - n) 0) 2 (omega arith))) k
          ∙ sym (get_d_tabulate 4 _ 0 (word_at n i - n) q.0 ∙ out_word_lem (λ w. rotr w 2) 19 u.high (word_at n i - n) q.0)
