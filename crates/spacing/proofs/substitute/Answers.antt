-- The eight words together.
-- Assumes nothing.
use mathlib.Core.Path.{◌≡◌}
use Prim.Native.Nat.{ℕ, ◌+◌, ◌-◌, ◌*◌}
use lib.Bits.{bit_xor}
use lib.ListN.{get_or}
use Rattle.forms.specs.Lists.{xor_sum}
use Rattle.forms.specs.Words.{byte, join}
use Rattle.forms.proofs.Xor.{xors}
use Rattle.labyrinth.specs.Groups.{spaced_sub}
use Rattle.spacing.proofs.substitute.Goals as goal

sorted : (a b c d e f g h : ℕ) → bit_xor (bit_xor (bit_xor (bit_xor a b) c) d) (bit_xor (bit_xor (bit_xor e f) g) h) ≡ bit_xor (bit_xor (bit_xor (bit_xor (bit_xor (bit_xor (bit_xor (bit_xor 0 a) b) c) d) e) f) g) h
sorted a b c d e f g h = simp xors

eight : (f : ℕ → ℕ) {p q r s p' q' r' s' : ℕ} → p ≡ f 0 → q ≡ f 1 → r ≡ f 2 → s ≡ f 3 → p' ≡ f 4 → q' ≡ f 5 → r' ≡ f 6 → s' ≡ f 7
    → bit_xor (bit_xor (bit_xor (bit_xor p q) r) s) (bit_xor (bit_xor (bit_xor p' q') r') s') ≡ xor_sum 8 f
unfolding xor_sum
eight f a b c d e g h i = rw (a, b, c, d, e, g, h, i) (sorted (f 0) (f 1) (f 2) (f 3) (f 4) (f 5) (f 6) (f 7))

pub returns : goal.returns
unfolding spaced_sub
returns c =
    let a = c.args in
    eight (λ k. join 8 (λ b. get_or a.s.now (8 * byte a.w k + 7 - k + b) 0))
    c.shifted.ensures
    c.shifted-2.ensures
    c.shifted-3.ensures
    c.shifted-4.ensures
    c.shifted-5.ensures
    c.shifted-6.ensures
    c.shifted-7.ensures
    c.shifted-8.ensures
