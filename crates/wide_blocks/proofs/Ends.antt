-- IMix, IT and FT of one block by the words of its halves.
-- Assumes nothing.
use Rattle.std.proofs.Common.{◌≡◌, ℕ, zero, suc, ◌+◌, ◌-◌, ◌*◌, ◌%◌, ◌<◌, ◌≢◌, List, ◌++◌, length, get_or, sym, refl, ap, ◌∙◌, ap₂, mod-lt, arith}
use mathlib.Core.Path.{fun_ext}
use lib.Bits.{bit_xor}
use Rattle.forms.specs.Lists.{tabulate, words_from}
use Rattle.forms.specs.Words.{rotl, rotr}
use Rattle.forms.proofs.Lists.{get_d_tabulate, tabulate_cong, tabulated}
use Rattle.forms.proofs.Words.{rotr_rotl}
use Rattle.labyrinth.specs.Blocks.{Block, plus, minus, each, zip}
use Rattle.labyrinth.specs.Cipher.{sigma, IMix, rounds, exchange}
use Rattle.labyrinth.specs.Keys.{half}
use Rattle.labyrinth.specs.Working.{Size}
use Rattle.labyrinth.specs.Groups.{in_memory, enter_by, leave_by, line_by}
use Rattle.labyrinth.proofs.Blocks.{pair, get_or_each, get_d_zip}

-- ---- IMix

-- a word of Sigma, the first and another
pub sigma_first : (s : Block) (j : ℕ) {v : ℕ} → j ≡ 0 → v ≡ rotl (bit_xor (get_or s.0 j 0) (get_or s.1 j 0)) 28 → v ≡ sigma s j
unfolding sigma
sigma_first s zero z e = e
sigma_first s (suc j) z e = let x : ⊥ = omega arith in absurd x

pub sigma_later : (s : Block) (j : ℕ) {v : ℕ} → j ≢ 0 → v ≡ bit_xor (get_or s.0 j 0) (get_or s.1 j 0) → v ≡ sigma s j
unfolding sigma
sigma_later s zero z e = absurd (z refl)
sigma_later s (suc j) z e = e

-- what is mixed in
abbrev pub mixing : ℕ → Block → List ℕ
mixing n s = tabulate n (λ j. sigma s ((j + n - 1) % n))

abbrev pub mixed : ℕ → Block → List ℕ → ℕ → ℕ
mixed n s x j = bit_xor (get_or x j 0) (get_or (mixing n s) j 0)

pub mixed_word : (n : ℕ) → Size n → (s : Block) (x : List ℕ) {d : List ℕ} → d ≡ tabulate n (sigma s) → (j : ℕ) → j < n
    → bit_xor (get_or x j 0) (get_or d ((j + n - 1) % n) 0) ≡ mixed n s x j
mixed_word n size s x {d} e j h =
    ap (bit_xor (get_or x j 0))
    (ap (λ (d : List ℕ). get_or d ((j + n - 1) % n) 0) e ∙ get_d_tabulate n (sigma s) 0 ((j + n - 1) % n) (mod-lt _ size.pos)
    ∙ sym (get_d_tabulate n (λ j. sigma s ((j + n - 1) % n)) 0 j h))

pub imixed : (n : ℕ) (s : Block) {a b : List ℕ} → a ≡ tabulate n (mixed n s s.0) → b ≡ tabulate n (mixed n s s.1) → ◌≡◌ {A = Block} (a, b) (IMix n s)
unfolding IMix zip
imixed n s p q = pair p q

-- ---- IT and FT

-- right by 2 is left by 62
right_two : ◌≡◌ {A = ℕ → ℕ} (λ w. rotl w 62) (λ w. rotr w 2)
right_two = fun_ext (λ w. sym (rotr_rotl w 2 (omega arith)))

module _ (W : ℕ → ℕ) (n : ℕ) (ks : List ℕ) where
  key : (m j : ℕ) → j < n → get_or (half n ks m) j 0 ≡ get_or ks (m * n + j) 0
  unfolding half
  key m j l = get_d_tabulate n (λ i. get_or ks (m * n + i) 0) 0 j l

  -- half m keyed, substituted and rotated
  in_half : (turn : ℕ → ℕ) (m : ℕ) (x : List ℕ) (at : ℕ → ℕ) → ((j : ℕ) → at j ≡ m * n + j)
      → tabulate n (λ j. turn (W (plus (get_or x j 0) (get_or ks (at j) 0)))) ≡ each n turn (each n W (zip n plus x (half n ks m)))
  unfolding each
  in_half turn m x at e =
      tabulate_cong n _ _
      (λ j h. sym
      (ap turn (get_or_each n W _ j h ∙ ap W (get_d_zip n plus _ _ j h ∙ ap (plus (get_or x j 0)) (key m j h ∙ ap (λ (k : ℕ). get_or ks k 0) (sym (e j)))))))

  -- and rotated, substituted and unkeyed
  out_half : (turn : ℕ → ℕ) (m : ℕ) (x : List ℕ)
      → tabulate n (λ j. minus (W (turn (get_or x j 0))) (get_or ks (m * n + j) 0)) ≡ zip n minus (each n W (each n turn x)) (half n ks m)
  unfolding zip
  out_half turn m x =
      tabulate_cong n _ _ (λ j h. sym (ap₂ minus (get_or_each n W _ j h ∙ ap W (get_or_each n turn _ j h)) (key m j h)))

  -- the halves keyed, substituted and rotated, then IMix
  pub entered : (l r : List ℕ) {a b : List ℕ} {z : Block}
      → a ≡ tabulate n (λ j. rotl (W (plus (get_or l j 0) (get_or ks (n + j) 0))) 2)
      → b ≡ tabulate n (λ j. rotl (W (plus (get_or r j 0) (get_or ks j 0))) 62)
      → ◌≡◌ {A = Block} z (IMix n (a, b)) → ◌≡◌ {A = Block} z (enter_by W n (half n ks 1, half n ks 0) (l, r))
  unfolding enter_by
  entered l r p q e =
      e
      ∙ ap (IMix n)
      (pair (p ∙ in_half (λ w. rotl w 2) 1 l (λ j. n + j) (λ j. omega arith))
      (q ∙ in_half (λ w. rotl w 62) 0 r (λ j. j) (λ j. omega arith) ∙ ap (λ (f : ℕ → ℕ). each n f (each n W (zip n plus r (half n ks 0)))) right_two))

  -- IMix, then the halves rotated, substituted and unkeyed
  pub left : (s : Block) {l r a b : List ℕ} → ◌≡◌ {A = Block} (l, r) (IMix n s)
      → a ≡ tabulate n (λ j. minus (W (rotl (get_or l j 0) 62)) (get_or ks (19 * n + j) 0))
      → b ≡ tabulate n (λ j. minus (W (rotl (get_or r j 0) 2)) (get_or ks (18 * n + j) 0))
      → ◌≡◌ {A = Block} (a, b) (leave_by W n (half n ks 19, half n ks 18) s)
  unfolding leave_by
  left s {l} {r} e p q =
      pair (p ∙ out_half (λ w. rotl w 62) 19 l ∙ ap (λ (f : ℕ → ℕ). zip n minus (each n W (each n f l)) (half n ks 19)) right_two) (q ∙ out_half (λ w. rotl w 2) 18 r)
      ∙ ap (λ (u : Block). (zip n minus (each n W (each n (λ w. rotr w 2) u.0)) (half n ks 19), zip n minus (each n W (each n (λ w. rotl w 2) u.1)) (half n ks 18))) e

-- ---- the block

-- the three phases
pub phases : (W W' SM : ℕ → ℕ) (n : ℕ) (ks : List ℕ) (s₀ : Block) {s₁ s₂ s₃ s₄ : Block}
    → ◌≡◌ {A = Block} s₁ (enter_by W n (half n ks 1, half n ks 0) s₀) → ◌≡◌ {A = Block} s₂ (rounds SM n (λ i. half n ks (i + 2)) 16 s₁)
    → ◌≡◌ {A = Block} s₃ (exchange s₂) → ◌≡◌ {A = Block} s₄ (leave_by W' n (half n ks 19, half n ks 18) s₃) → ◌≡◌ {A = Block} s₄ (line_by W W' SM n ks s₀)
unfolding line_by
phases W W' SM n ks s₀ p q r e =
    e ∙ ap (leave_by W' n (half n ks 19, half n ks 18)) (r ∙ ap exchange (q ∙ ap (rounds SM n (λ i. half n ks (i + 2)) 16) p))

-- its halves as they stand in memory
pub standing : (n : ℕ) (f : Block → Block) (x : List ℕ) {h l : List ℕ} → length h ≡ n → length l ≡ n → ◌≡◌ {A = Block} (h, l) (f (words_from n n x, words_from n 0 x))
    → tabulate n (λ i. get_or l i 0) ++ tabulate n (λ i. get_or h i 0) ≡ in_memory n f x
unfolding in_memory
standing n f x {h} {l} a b e =
    ap₂ ◌++◌ (sym (tabulated n (λ i. get_or l i 0) 0 l b (λ i k. refl))) (sym (tabulated n (λ i. get_or h i 0) 0 h a (λ i k. refl)))
    ∙ ap (λ (s : Block). s.1 ++ s.0) e
