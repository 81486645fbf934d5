-- The iterations of one block by the first four of eight tables: one word, one iteration, and all of them.
-- Assumes nothing.
use Rattle.std.proofs.Common.{◌≡◌, ℕ, zero, suc, ◌+◌, ◌*◌, ◌%◌, ◌<◌, ◌≤◌, true, List, [], ◌∷◌, get_or, sym, refl, ap, ◌∙◌, ap₂, add-zero, add-one, mod-eq_of_lt, arith}
use lib.Bits.{bit_xor}
use Rattle.forms.specs.Lists.{tabulate, xor_sum, words_from}
use Rattle.forms.specs.Words.{byte, rotl}
use Rattle.forms.proofs.Lists.{get_d_tabulate}
use Rattle.forms.proofs.Sums.{xor_sum_cong}
use Rattle.field.specs.Published.{constants}
use Rattle.labyrinth.specs.Blocks.{Block, plus, zip}
use Rattle.labyrinth.specs.Cipher.{P, SL, F, round, rounds}
use Rattle.labyrinth.specs.Keys.{half}
use Rattle.labyrinth.specs.Working.{Size, share}
use Rattle.labyrinth.specs.Groups.{lookup_four}
use Rattle.labyrinth.proofs.Sizes.{sizes}
use Rattle.labyrinth.proofs.Blocks.{pair}
use Rattle.labyrinth.proofs.Permutation.{byte_P}
use Rattle.labyrinth.proofs.Rounds.{constant_last}

-- ---- one word

-- what is looked up for a word whose bytes are those of two words in turn
abbrev pub by_two : List ℕ → ℕ → ℕ → ℕ
by_two t a b =
    bit_xor (xor_sum 4 (λ k. share true t k (byte (get_or (a ∷ b ∷ []) (k % 2) 0) k))) (rotl (xor_sum 4 (λ k. share true t k (byte (get_or (a ∷ b ∷ []) (k % 2) 0) (k + 4)))) 32)

-- past two, and past four, the words stand as they did
around : (n : ℕ) → Size n → n ≤ 2 → (j k : ℕ) → ((j + k % 2) % n ≡ (j + k) % n) × ((j + k % 2) % n ≡ (j + (k + 4)) % n)
around =
    sizes (λ n. n ≤ 2 → (j k : ℕ) → ((j + k % 2) % n ≡ (j + k) % n) × ((j + k % 2) % n ≡ (j + (k + 4)) % n))
    (λ h j k. (omega arith, omega arith)) (λ h j k. (omega arith, omega arith)) (λ h j k. let z : ⊥ = omega arith in absurd z)

in_turn : (f : ℕ → ℕ) {a b : ℕ} → a ≡ f 0 → b ≡ f 1 → (m : ℕ) → m < 2 → get_or (a ∷ b ∷ []) m 0 ≡ f m
in_turn f p q zero h = p
in_turn f p q (suc zero) h = q
in_turn f p q (suc (suc m)) h = let z : ⊥ = omega arith in absurd z

-- the two words from word j on give what is looked up for word j of P(n)
by_two_lem : (t : List ℕ) (n : ℕ) → Size n → n ≤ 2 → (y : List ℕ) (j : ℕ) → j < n → {a b : ℕ}
    → a ≡ get_or y ((j + 0) % n) 0 → b ≡ get_or y ((j + 1) % n) 0 → by_two t a b ≡ lookup_four t (get_or (P n y) j 0)
unfolding lookup_four
by_two_lem t n size two y j h {a} {b} p q =
    ap₂ (λ (x y : ℕ). bit_xor x (rotl y 32))
    (xor_sum_cong 4 (λ k. share true t k (byte (get_or (a ∷ b ∷ []) (k % 2) 0) k)) (λ k. share true t k (byte (get_or (P n y) j 0) k))
    (λ k l. ap (share true t k) (same k k (omega arith) (around n size two j k).0)))
    (xor_sum_cong 4 (λ k. share true t k (byte (get_or (a ∷ b ∷ []) (k % 2) 0) (k + 4))) (λ k. share true t k (byte (get_or (P n y) j 0) (k + 4)))
    (λ k l. ap (share true t k) (same k (k + 4) (omega arith) (around n size two j k).1)))
  where
    same : (k b' : ℕ) → b' < 8 → (j + k % 2) % n ≡ (j + b') % n → byte (get_or (a ∷ b ∷ []) (k % 2) 0) b' ≡ byte (get_or (P n y) j 0) b'
    same k b' l e =
        ap (λ (w : ℕ). byte w b') (in_turn (λ i. get_or y ((j + i) % n) 0) p q (k % 2) (omega arith) ∙ ap (λ (i : ℕ). get_or y i 0) e)
        ∙ sym (byte_P n size y j b' h l)

-- ---- one iteration

-- with the word's constant
constant : (SM : ℕ → ℕ) (j l z : ℕ) {c : List ℕ} → c ≡ constants → bit_xor (bit_xor l (get_or c j 0)) (SM z) ≡ bit_xor l (SL SM j z)
unfolding SL
constant SM j l z e = ap (λ (c : List ℕ). bit_xor (bit_xor l (get_or c j 0)) (SM z)) e ∙ constant_last l (get_or constants j 0) (SM z)

-- word j of the new right half
abbrev pub new_word : (ℕ → ℕ) → ℕ → List ℕ → List ℕ → List ℕ → ℕ → ℕ
new_word SM n k l r j = bit_xor (get_or l j 0) (get_or (F SM n k r) j 0)

pub by_words : (t : List ℕ) (n : ℕ) → Size n → n ≤ 2 → (k l r : List ℕ) {z c : List ℕ} → z ≡ zip n plus r k → c ≡ constants → (j : ℕ) → j < n → {w : ℕ}
    → w ≡ bit_xor (bit_xor (get_or l j 0) (get_or c j 0)) (by_two t (get_or z j 0) (get_or z ((j + 1) % n) 0)) → w ≡ new_word (lookup_four t) n k l r j
unfolding F
by_words t n size two k l r {z} {c} ez ec j h e =
    let y : List ℕ = zip n plus r k in
    e
    ∙ ap (bit_xor (bit_xor (get_or l j 0) (get_or c j 0)))
    (by_two_lem t n size two y j h (ap (λ (y : List ℕ). get_or y j 0) ez ∙ ap (λ (i : ℕ). get_or y i 0) itself) (ap (λ (y : List ℕ). get_or y ((j + 1) % n) 0) ez))
    ∙ constant (lookup_four t) j (get_or l j 0) (get_or (P n y) j 0) ec
    ∙ ap (bit_xor (get_or l j 0)) (sym (get_d_tabulate n (λ i. SL (lookup_four t) i (get_or (P n y) i 0)) 0 j h))
  where
    itself : j ≡ (j + 0) % n
    itself = sym (ap (λ (i : ℕ). i % n) (add-zero j) ∙ mod-eq_of_lt h)

pub new_half : (SM : ℕ → ℕ) (n : ℕ) (k l r : List ℕ) {y : List ℕ} → y ≡ tabulate n (new_word SM n k l r) → ◌≡◌ {A = Block} (r, y) (round SM n k (l, r))
unfolding round zip
new_half SM n k l r e = pair refl e

-- the sum of a half and its key, word by word
pub sum_word : (n at : ℕ) (ks : List ℕ) (w j : ℕ) → j < n → plus w (get_or ks (at + j) 0) ≡ plus w (get_or (words_from n at ks) j 0)
unfolding words_from
sum_word n at ks w j h = ap (plus w) (sym (get_d_tabulate n (λ i. get_or ks (at + i) 0) 0 j h))

-- ---- one after another

-- the iterations under the half-blocks of a schedule from the third on: i of them are done
abbrev pub Ran : (ℕ → ℕ) → ℕ → List ℕ → Block → ℕ → Block → Type 0
Ran SM n ks s₀ i s = ◌≡◌ {A = Block} s (rounds SM n (λ i. half n ks (i + 2)) i s₀)

pub ran_none : (SM : ℕ → ℕ) (n : ℕ) (ks : List ℕ) (s : Block) → Ran SM n ks s 0 s
unfolding rounds
ran_none SM n ks s = refl

pub ran_more : (SM : ℕ → ℕ) (n : ℕ) (ks : List ℕ) (s₀ : Block) (i : ℕ) {s s' : Block}
    → ◌≡◌ {A = Block} s' (round SM n (words_from n ((i + 2) * n) ks) s) → Ran SM n ks s₀ i s → Ran SM n ks s₀ (i + 1) s'
unfolding rounds words_from half
ran_more SM n ks s₀ i e p =
    e ∙ ap (round SM n (half n ks (i + 2))) p ∙ ap (λ (k : ℕ). rounds SM n (λ i. half n ks (i + 2)) k s₀) (sym (add-one i))
