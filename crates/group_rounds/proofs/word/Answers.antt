-- The two sums together are v and the eight shares.
-- Assumes nothing.
use Rattle.std.proofs.Common.{◌≡◌, ℕ, ◌%◌, true, [], ◌∷◌, get_or}
use lib.Bits.{bit_xor}
use Rattle.forms.specs.Lists.{xor_sum}
use Rattle.forms.specs.Words.{byte}
use Rattle.forms.proofs.Xor.{xors}
use Rattle.labyrinth.specs.Working.{share}
use Rattle.group_rounds.proofs.word.Goals as goal

sorted : (v a b c d e f g h : ℕ) → bit_xor (bit_xor (bit_xor (bit_xor (bit_xor v a) b) c) d) (bit_xor (bit_xor (bit_xor e f) g) h) ≡ bit_xor v (bit_xor (bit_xor (bit_xor (bit_xor (bit_xor (bit_xor (bit_xor (bit_xor 0 a) b) c) d) e) f) g) h)
sorted v a b c d e f g h = simp xors

eight : (v : ℕ) (f : ℕ → ℕ) {p q r s p' q' r' s' : ℕ} → p ≡ f 0 → q ≡ f 1 → r ≡ f 2 → s ≡ f 3 → p' ≡ f 4 → q' ≡ f 5 → r' ≡ f 6 → s' ≡ f 7
    → bit_xor (bit_xor (bit_xor (bit_xor (bit_xor v p) q) r) s) (bit_xor (bit_xor (bit_xor p' q') r') s') ≡ bit_xor v (xor_sum 8 f)
unfolding xor_sum
eight v f a b c d e g h i = rw (a, b, c, d, e, g, h, i) (sorted v (f 0) (f 1) (f 2) (f 3) (f 4) (f 5) (f 6) (f 7))

pub returns : goal.returns
returns c =
    let a = c.args in
    eight a.v (λ k. share true a.t.now k (byte (get_or (a.a ∷ a.b ∷ a.c ∷ a.d ∷ []) (k % 4) 0) k))
    c.part_of.ensures
    c.part_of-2.ensures
    c.part_of-3.ensures
    c.part_of-4.ensures
    c.part_of-5.ensures
    c.part_of-6.ensures
    c.part_of-7.ensures
    c.part_of-8.ensures
