-- The sum that is rotated, and v with the other.
-- Assumes nothing.
use Rattle.std.proofs.Common.{◌≡◌, ℕ, ◌+◌, ◌%◌, true, [], ◌∷◌, get_or}
use lib.Bits.{bit_xor}
use Rattle.forms.specs.Lists.{xor_sum}
use Rattle.forms.specs.Words.{byte, rotl}
use Rattle.forms.proofs.Xor.{xors}
use Rattle.labyrinth.specs.Working.{share}
use Rattle.wide_blocks.proofs.word.Goals as goal

sorted : (v a b c d w : ℕ) → bit_xor (bit_xor (bit_xor (bit_xor (bit_xor v a) b) c) d) w ≡ bit_xor v (bit_xor (bit_xor (bit_xor (bit_xor a b) c) d) w)
sorted v a b c d w = simp xors

eight : (v : ℕ) (f g : ℕ → ℕ) {p q r s p' q' r' s' w : ℕ} → p ≡ f 0 → q ≡ f 1 → r ≡ f 2 → s ≡ f 3 → p' ≡ g 0 → q' ≡ g 1 → r' ≡ g 2 → s' ≡ g 3
    → w ≡ rotl (bit_xor (bit_xor (bit_xor p' q') r') s') 32
    → bit_xor (bit_xor (bit_xor (bit_xor (bit_xor v p) q) r) s) w ≡ bit_xor v (bit_xor (xor_sum 4 f) (rotl (xor_sum 4 g) 32))
unfolding xor_sum
eight v f g a b c d e h i j k = rw (k, a, b, c, d, e, h, i, j) (sorted v (f 0) (f 1) (f 2) (f 3) _)

pub returns : goal.returns
returns c =
    let a = c.args in
    let f : ℕ → ℕ → ℕ = λ k b. share true a.t.now k (byte (get_or (a.a ∷ a.b ∷ []) (k % 2) 0) b) in
    eight a.v (λ k. f k k) (λ k. f k (k + 4))
    c.part.ensures
    c.part-2.ensures
    c.part-3.ensures
    c.part-4.ensures
    c.later.ensures
    c.later-2.ensures
    c.later-3.ensures
    c.later-4.ensures
    c.rotate_left.ensures
