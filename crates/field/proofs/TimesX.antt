-- What the code's own forms of a byte's and a word's multiplication by x come to.
-- Assumes nothing.
use mathlib.Core.Path.{◌≡◌, sym, ap, ◌∙◌}
use Prim.Native.Nat.{ℕ, ◌+◌, ◌-◌, ◌*◌, ◌/◌, ◌%◌, ◌^◌, ◌<◌}
use native.Mathlib.Numerals.{add-one}
use lib.Bits.{bit_xor, bit_and, xor_shr, xor_mod}
use lib.Pow.{shr-shr}
use Rattle.forms.specs.Words.{byte, join, each_byte}
use Rattle.forms.proofs.Xor.{Additive, xor_shl, after_xor, both_xor, and_xor, by_basis}
use Rattle.forms.proofs.Tests.{tested_agree}
use Rattle.forms.proofs.Words.{each_xor}
use Rattle.field.specs.Field.{times_x, shift}
use Rattle.field.proofs.Field.{times_x_xor, times_x_lt}

-- (a << 1) ^ ((a >> 7) * 0x2D): what 12D would take away at x^8 the shift of a byte drops
pub times_x_code : (a : ℕ) → a < 2 ^ 8 → bit_xor (a * 2 % 2 ^ 8) (a / 2 ^ 7 * 0x2D) ≡ times_x a
times_x_code = tested_agree 256 (λ a. bit_xor (a * 2 % 2 ^ 8) (a / 2 ^ 7 * 0x2D)) times_x (unfold times_x in tt)

-- k places up
abbrev up : ℕ → ℕ → ℕ
up k x = x * 2 ^ k % 2 ^ 64

-- the highest bit of each byte, at its lowest place
abbrev highest : ℕ → ℕ
highest w = bit_and (w / 2 ^ 7) 0x0101010101010101

-- the other bits, one place up
abbrev others : ℕ → ℕ
others w = up 1 (bit_and w 0x7F7F7F7F7F7F7F7F)

-- times x at each byte of a word: ((w & 7F..7F) << 1) ^ h ^ (h << 2) ^ (h << 3) ^ (h << 5), h being (w >> 7) & 01..01
abbrev pub times_xeach : ℕ → ℕ
times_xeach w = bit_xor (bit_xor (bit_xor (bit_xor (others w) (highest w)) (up 2 (highest w))) (up 3 (highest w))) (up 5 (highest w))

times_xeach_xor : Additive times_xeach
times_xeach_xor = both_xor three (λ w. up 5 (highest w)) (both_xor two (λ w. up 3 (highest w)) (both_xor one (λ w. up 2 (highest w)) (both_xor others highest others_xor highest_xor) (above 2)) (above 3)) (above 5)
  where
    one : ℕ → ℕ
    one w = bit_xor (others w) (highest w)

    two : ℕ → ℕ
    two w = bit_xor (one w) (up 2 (highest w))

    three : ℕ → ℕ
    three w = bit_xor (two w) (up 3 (highest w))

    up_xor : (k : ℕ) → Additive (up k)
    up_xor k a b = ap (λ (x : ℕ). x % 2 ^ 64) (xor_shl a b k) ∙ xor_mod (a * 2 ^ k) (b * 2 ^ k) 64

    highest_xor : Additive highest
    highest_xor = after_xor (λ x. bit_and x 0x0101010101010101) (λ w. w / 2 ^ 7) (and_xor 0x0101010101010101) (λ a b. xor_shr a b 7)

    others_xor : Additive others
    others_xor = after_xor (up 1) (λ w. bit_and w 0x7F7F7F7F7F7F7F7F) (up_xor 1) (and_xor 0x7F7F7F7F7F7F7F7F)

    above : (k : ℕ) → Additive (λ w. up k (highest w))
    above k = after_xor (up k) highest (up_xor k) highest_xor

pub times_xeach_code : (w : ℕ) → w < 2 ^ 64 → times_xeach w ≡ each_byte times_x w
times_xeach_code =
    by_basis times_xeach (each_byte times_x) times_xeach_xor (each_xor times_x (λ x l. times_x_lt x) times_x_xor) 64
    (tested_agree 64 (λ k. times_xeach (2 ^ k)) (λ k. each_byte times_x (2 ^ k)) (unfold each_byte join byte times_x in tt))

-- one place more, as a loop has it
pub shift_next : (a k : ℕ) {x : ℕ} → x ≡ times_x (shift a k) → x ≡ shift a (k + 1)
unfolding shift
shift_next a k e = e ∙ ap (shift a) (sym (add-one k))

pub half_next : (b k : ℕ) {y : ℕ} → y ≡ b / 2 ^ k → y / 2 ≡ b / 2 ^ (k + 1)
half_next b k e = ap (λ (x : ℕ). x / 2) e ∙ shr-shr b k 1

-- ---- a word that a loop makes byte by byte
