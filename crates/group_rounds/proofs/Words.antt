-- One word of F by the eight tables, at every n: byte k is looked up in word k mod 4 of four words that stand in turn.
-- Assumes nothing.
use Rattle.std.proofs.Common.{◌≡◌, ℕ, zero, suc, ◌+◌, ◌%◌, ◌<◌, true, List, [], ◌∷◌, get_or, sym, ap, ◌∙◌, arith}
use Rattle.forms.specs.Lists.{xor_sum}
use Rattle.forms.specs.Words.{byte}
use Rattle.forms.proofs.Sums.{xor_sum_cong}
use Rattle.labyrinth.specs.Cipher.{P}
use Rattle.labyrinth.specs.Working.{Size, share, lookup_in}
use Rattle.labyrinth.proofs.Sizes.{sizes}
use Rattle.labyrinth.proofs.Permutation.{term, terms_P}

-- past four the words stand as they did
around : (n : ℕ) → Size n → (j k : ℕ) → (j + k % 4) % n ≡ (j + k) % n
around = sizes (λ n. (j k : ℕ) → (j + k % 4) % n ≡ (j + k) % n) (λ j k. omega arith) (λ j k. omega arith) (λ j k. omega arith)

in_turn : (f : ℕ → ℕ) {a b c d : ℕ} → a ≡ f 0 → b ≡ f 1 → c ≡ f 2 → d ≡ f 3 → (m : ℕ) → m < 4 → get_or (a ∷ b ∷ c ∷ d ∷ []) m 0 ≡ f m
in_turn f p q r s zero h = p
in_turn f p q r s (suc zero) h = q
in_turn f p q r s (suc (suc zero)) h = r
in_turn f p q r s (suc (suc (suc zero))) h = s
in_turn f p q r s (suc (suc (suc (suc m)))) h = let e : ⊥ = omega arith in absurd e

-- the four words from word j on give what is looked up for word j of P(n)
pub by_four : (t : List ℕ) (n : ℕ) → Size n → (y : List ℕ) (j : ℕ) → j < n → {a b c d : ℕ}
    → a ≡ get_or y ((j + 0) % n) 0 → b ≡ get_or y ((j + 1) % n) 0 → c ≡ get_or y ((j + 2) % n) 0 → d ≡ get_or y ((j + 3) % n) 0
    → xor_sum 8 (λ k. share true t k (byte (get_or (a ∷ b ∷ c ∷ d ∷ []) (k % 4) 0) k)) ≡ lookup_in true t (get_or (P n y) j 0)
unfolding lookup_in term
by_four t n s y j h {a} {b} {c} {d} p q r u =
    xor_sum_cong 8 (λ k. share true t k (byte (get_or (a ∷ b ∷ c ∷ d ∷ []) (k % 4) 0) k)) (term (share true t) n y j)
    (λ k l. ap (λ (w : ℕ). share true t k (byte w k))
    (in_turn (λ i. get_or y ((j + i) % n) 0) p q r u (k % 4) (omega arith) ∙ ap (λ (i : ℕ). get_or y i 0) (around n s j k)))
    ∙ sym (terms_P (share true t) n s y j h)
