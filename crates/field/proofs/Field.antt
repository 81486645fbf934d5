-- The laws of the field: the product is bilinear, commutative and associative, 1 is neutral, every byte but 0 has an inverse;
-- and it is what the polynomial product leaves when it is divided by 12D.
-- Assumes nothing.
use mathlib.Core.Path.{◌≡◌, refl, sym, ap, ap₂, ◌∙◌}
use mathlib.Core.List.{List, [], ◌∷◌}
use Prim.Native.Nat.{ℕ, zero, suc, ◌+◌, ◌-◌, ◌*◌, ◌/◌, ◌%◌, ◌^◌, ◌<◌}
use native.Mathlib.Nat.{mod-lt, mod-mod, mod-eq_of_lt, not-suc-le-zero}
use native.Mathlib.Omega.{arith}
use lib.Dec.{eqb, ltb, ltb→lt}
use lib.ListN.{get_or}
use lib.Bits.{bit_xor, xor_shr, xor_mod}
use lib.Pow.{field, mod-mod-pow}
use Rattle.forms.specs.Lists.{xor_sum}
use Rattle.forms.proofs.Xor.{Digit, off, on, parity, xors, xor_shl, digit_xor, digit_times, Additive, additive_zero, digit_into, by_basis}
use Rattle.forms.proofs.Tests.{all, tested_at, tested_agree}
use Rattle.forms.proofs.Sums.{xor_sum_cong, xor_sum_lt, xor_sum_xor, additive_xor_sum}
use Rattle.field.specs.Field.{times_x, shift, mul}

-- ---- times x

pub times_x_xor : Additive times_x
unfolding times_x
times_x_xor a b =
    ap₂ (λ (x y : ℕ). bit_xor (x * 2) (y % 2 * 0x12D)) (xor_mod a b 8) (xor_shr a b 7)
    ∙ ap₂ (λ (x y : ℕ). bit_xor x (y * 0x12D)) (xor_shl (a % 2 ^ 8) (b % 2 ^ 8) 1) (xor_mod (a / 2 ^ 7) (b / 2 ^ 7) 1)
    ∙ ap (bit_xor (bit_xor (a % 2 ^ 8 * 2) (b % 2 ^ 8 * 2))) (digit_xor (parity (a / 2 ^ 7)) (parity (b / 2 ^ 7)) 0x12D)
    ∙ simp xors

times_x_low : (a : ℕ) → times_x a ≡ times_x (a % 2 ^ 8)
unfolding times_x
times_x_low a = ap₂ (λ (x y : ℕ). bit_xor (x * 2) (y * 0x12D)) (sym (mod-mod a (2 ^ 8))) (omega arith)

pub times_x_lt : (a : ℕ) → times_x a < 2 ^ 8
times_x_lt a =
    rw (times_x_low a ∙ tested_agree 256 times_x (λ x. times_x x % 2 ^ 8) (unfold times_x in tt) (a % 2 ^ 8) (omega arith)) (mod-lt (times_x (a % 2 ^ 8)) (omega arith))

pub shift_lt : (a k : ℕ) → shift a k < 2 ^ 8
unfolding shift
shift_lt a zero = omega arith
shift_lt a (suc k) = times_x_lt (shift a k)

pub shift_xor : (k : ℕ) → Additive (λ a. shift a k)
unfolding shift
shift_xor zero a b = xor_mod a b 8
shift_xor (suc k) a b = ap times_x (shift_xor k a b) ∙ times_x_xor (shift a k) (shift b k)

shift_low : (a k : ℕ) → shift a k ≡ shift (a % 2 ^ 8) k
unfolding shift
shift_low a zero = sym (mod-mod a (2 ^ 8))
shift_low a (suc k) = ap times_x (shift_low a k)

-- ---- the product is additive in each argument, and a byte

pub mul_xor_l : (a b c : ℕ) → mul (bit_xor a b) c ≡ bit_xor (mul a c) (mul b c)
unfolding mul
mul_xor_l a b c =
    xor_sum_cong 8 (λ k. c / 2 ^ k % 2 * shift (bit_xor a b) k) (λ k. bit_xor (c / 2 ^ k % 2 * shift a k) (c / 2 ^ k % 2 * shift b k))
    (λ k l. ap (λ (x : ℕ). c / 2 ^ k % 2 * x) (shift_xor k a b) ∙ digit_times (parity (c / 2 ^ k)) (shift a k) (shift b k))
    ∙ xor_sum_xor 8 (λ k. c / 2 ^ k % 2 * shift a k) (λ k. c / 2 ^ k % 2 * shift b k)

pub mul_xor_r : (a b c : ℕ) → mul a (bit_xor b c) ≡ bit_xor (mul a b) (mul a c)
unfolding mul
mul_xor_r a b c =
    xor_sum_cong 8 (λ k. bit_xor b c / 2 ^ k % 2 * shift a k) (λ k. bit_xor (b / 2 ^ k % 2 * shift a k) (c / 2 ^ k % 2 * shift a k))
    (λ k l. ap (λ (x : ℕ). x % 2 * shift a k) (xor_shr b c k) ∙ ap (λ (x : ℕ). x * shift a k) (xor_mod (b / 2 ^ k) (c / 2 ^ k) 1)
    ∙ digit_xor (parity (b / 2 ^ k)) (parity (c / 2 ^ k)) (shift a k))
    ∙ xor_sum_xor 8 (λ k. b / 2 ^ k % 2 * shift a k) (λ k. c / 2 ^ k % 2 * shift a k)

pub mul_low_l : (a b : ℕ) → mul a b ≡ mul (a % 2 ^ 8) b
unfolding mul
mul_low_l a b =
    xor_sum_cong 8 (λ k. b / 2 ^ k % 2 * shift a k) (λ k. b / 2 ^ k % 2 * shift (a % 2 ^ 8) k) (λ k l. ap (λ (x : ℕ). b / 2 ^ k % 2 * x) (shift_low a k))

-- the bits of the low byte
bit_low : (b k : ℕ) → k < 8 → b / 2 ^ k % 2 ≡ b % 2 ^ 8 / 2 ^ k % 2
bit_low b k l =
    let e : 8 ≡ (8 - k) + k = omega arith in
    let e' : 8 - k ≡ (7 - k) + 1 = omega arith in
    sym (ap (λ (m : ℕ). b % 2 ^ m / 2 ^ k % 2) e ∙ ap (λ (x : ℕ). x % 2) (field b (8 - k) k) ∙ ap (λ (m : ℕ). b / 2 ^ k % 2 ^ m % 2) e'
    ∙ mod-mod-pow (b / 2 ^ k) (7 - k) 1)

pub mul_low_r : (a b : ℕ) → mul a b ≡ mul a (b % 2 ^ 8)
unfolding mul
mul_low_r a b =
    xor_sum_cong 8 (λ k. b / 2 ^ k % 2 * shift a k) (λ k. b % 2 ^ 8 / 2 ^ k % 2 * shift a k) (λ k l. ap (λ (x : ℕ). x * shift a k) (bit_low b k l))

pub digit_lt : {d m : ℕ} → Digit d → (a : ℕ) → a < m → d * a < m
digit_lt off a h = omega arith
digit_lt on a h = omega arith

pub mul_lt : (a b : ℕ) → mul a b < 2 ^ 8
unfolding mul
mul_lt a b = xor_sum_lt 8 8 (λ k. b / 2 ^ k % 2 * shift a k) (λ k l. digit_lt (parity (b / 2 ^ k)) (shift a k) (shift_lt a k))

pub zero-mul : (a : ℕ) → mul 0 a ≡ 0
zero-mul a = additive_zero (λ x. mul x a) (λ x y. mul_xor_l x y a)

pub mul_zero : (a : ℕ) → mul a 0 ≡ 0
mul_zero a = additive_zero (mul a) (mul_xor_r a)

-- ---- commutative: by the 64 products of powers of x

pub mul_comm : (a b : ℕ) → mul a b ≡ mul b a
mul_comm a b = low² a b ∙ bytes (a % 2 ^ 8) (omega arith) (b % 2 ^ 8) (omega arith) ∙ sym (low² b a)
  where
    low² : (a b : ℕ) → mul a b ≡ mul (a % 2 ^ 8) (b % 2 ^ 8)
    low² a b = mul_low_l a b ∙ mul_low_r (a % 2 ^ 8) b

    basis : (i : ℕ) → i < 8 → (j : ℕ) → j < 8 → mul (2 ^ i) (2 ^ j) ≡ mul (2 ^ j) (2 ^ i)
    basis i hi =
        tested_agree 8 (λ j. mul (2 ^ i) (2 ^ j)) (λ j. mul (2 ^ j) (2 ^ i))
        (tested_at 8 (λ i. all 8 (λ j. eqb (mul (2 ^ i) (2 ^ j)) (mul (2 ^ j) (2 ^ i)))) (unfold mul xor_sum shift times_x in tt) i hi)

    bytes : (a : ℕ) → a < 2 ^ 8 → (b : ℕ) → b < 2 ^ 8 → mul a b ≡ mul b a
    bytes a ha b hb =
        by_basis (λ x. mul x b) (mul b) (λ x y. mul_xor_l x y b) (mul_xor_r b) 8
        (λ i hi. by_basis (mul (2 ^ i)) (λ y. mul y (2 ^ i)) (mul_xor_r (2 ^ i)) (λ x y. mul_xor_l x y (2 ^ i)) 8 (basis i hi) b hb)
        a ha

-- ---- associative: times x goes into a product's first factor, so (a b) c = (a c) b

times_x_shift : (a k : ℕ) → times_x (shift a k) ≡ shift (times_x a) k
unfolding shift
times_x_shift a zero = sym (times_x_low a) ∙ sym (mod-eq_of_lt (times_x_lt a))
times_x_shift a (suc k) = ap times_x (times_x_shift a k)

times_x_mul : (a b : ℕ) → times_x (mul a b) ≡ mul (times_x a) b
unfolding mul
times_x_mul a b =
    additive_xor_sum times_x times_x_xor 8 (λ k. b / 2 ^ k % 2 * shift a k)
    ∙ xor_sum_cong 8 (λ k. times_x (b / 2 ^ k % 2 * shift a k)) (λ k. b / 2 ^ k % 2 * shift (times_x a) k)
    (λ k l. digit_into times_x times_x_xor (parity (b / 2 ^ k)) (shift a k) ∙ ap (λ (x : ℕ). b / 2 ^ k % 2 * x) (times_x_shift a k))

shift_mul : (a b k : ℕ) → shift (mul a b) k ≡ mul (shift a k) b
unfolding shift
shift_mul a b zero = mod-eq_of_lt (mul_lt a b) ∙ mul_low_l a b
shift_mul a b (suc k) = ap times_x (shift_mul a b k) ∙ times_x_mul (shift a k) b

mul_swap : (a b c : ℕ) → mul (mul a b) c ≡ mul (mul a c) b
unfolding mul
mul_swap a b c =
    xor_sum_cong 8 (λ k. c / 2 ^ k % 2 * shift (mul a b) k) (λ k. mul (c / 2 ^ k % 2 * shift a k) b)
    (λ k l. ap (λ (x : ℕ). c / 2 ^ k % 2 * x) (shift_mul a b k) ∙ sym (digit_into (λ x. mul x b) (λ x y. mul_xor_l x y b) (parity (c / 2 ^ k)) (shift a k)))
    ∙ sym (additive_xor_sum (λ x. mul x b) (λ x y. mul_xor_l x y b) 8 (λ k. c / 2 ^ k % 2 * shift a k))

pub mul_assoc : (a b c : ℕ) → mul (mul a b) c ≡ mul a (mul b c)
mul_assoc a b c = ap (λ (x : ℕ). mul x c) (mul_comm a b) ∙ mul_swap b a c ∙ mul_comm (mul b c) a

-- ---- 1, inverses, no divisors of 0

pub one-mul : (a : ℕ) → a < 2 ^ 8 → mul 1 a ≡ a
one-mul = by_basis (mul 1) (λ x. x) (mul_xor_r 1) (λ x y. refl) 8 (tested_agree 8 (λ k. mul 1 (2 ^ k)) (λ k. 2 ^ k) (unfold mul xor_sum shift times_x in tt))

pub mul-one : (a : ℕ) → a < 2 ^ 8 → mul a 1 ≡ a
mul-one a h = mul_comm a 1 ∙ one-mul a h

-- the inverses of the bytes 1 to FF; the test below shows that they are
inverses : List ℕ
inverses =
    0x00 ∷ 0x01 ∷ 0x96 ∷ 0xE4 ∷ 0x4B ∷ 0x5C ∷ 0x72 ∷ 0xC5 ∷ 0xB3 ∷ 0x43 ∷ 0x2E ∷ 0xFD ∷ 0x39 ∷ 0x3C ∷ 0xF4 ∷ 0x34
    ∷ 0xCF ∷ 0xF7 ∷ 0xB7 ∷ 0x32 ∷ 0x17 ∷ 0xE9 ∷ 0xE8 ∷ 0x14 ∷ 0x8A ∷ 0x26 ∷ 0x1E ∷ 0xDA ∷ 0x7A ∷ 0xB0 ∷ 0x1A ∷ 0xDB
    ∷ 0xF1 ∷ 0x49 ∷ 0xED ∷ 0x6B ∷ 0xCD ∷ 0xBA ∷ 0x19 ∷ 0x8B ∷ 0x9D ∷ 0xFE ∷ 0xE2 ∷ 0xF9 ∷ 0x74 ∷ 0xAD ∷ 0x0A ∷ 0xFC
    ∷ 0x45 ∷ 0xE1 ∷ 0x13 ∷ 0xB6 ∷ 0x0F ∷ 0xF5 ∷ 0x6D ∷ 0xA1 ∷ 0x3D ∷ 0x0C ∷ 0x58 ∷ 0x85 ∷ 0x0D ∷ 0x38 ∷ 0xFB ∷ 0xBC
    ∷ 0xEE ∷ 0x8F ∷ 0xB2 ∷ 0x09 ∷ 0xE0 ∷ 0x30 ∷ 0xA3 ∷ 0xF3 ∷ 0xF0 ∷ 0x21 ∷ 0x5D ∷ 0x04 ∷ 0x9A ∷ 0x98 ∷ 0xD3 ∷ 0xAB
    ∷ 0xD8 ∷ 0xC9 ∷ 0x7F ∷ 0x5F ∷ 0x71 ∷ 0x89 ∷ 0xEA ∷ 0x7D ∷ 0x3A ∷ 0x84 ∷ 0xC0 ∷ 0x66 ∷ 0x05 ∷ 0x4A ∷ 0x7E ∷ 0x53
    ∷ 0xB4 ∷ 0xCA ∷ 0xE6 ∷ 0xDC ∷ 0x9F ∷ 0xC2 ∷ 0x5B ∷ 0xC1 ∷ 0x91 ∷ 0x79 ∷ 0xEC ∷ 0x23 ∷ 0xA0 ∷ 0x36 ∷ 0xC6 ∷ 0x8D
    ∷ 0x88 ∷ 0x54 ∷ 0x06 ∷ 0xC4 ∷ 0x2C ∷ 0xAC ∷ 0xD4 ∷ 0x80 ∷ 0x90 ∷ 0x69 ∷ 0x1C ∷ 0xB1 ∷ 0xEB ∷ 0x57 ∷ 0x5E ∷ 0x52
    ∷ 0x77 ∷ 0xD5 ∷ 0xD1 ∷ 0xDF ∷ 0x59 ∷ 0x3B ∷ 0x92 ∷ 0xD6 ∷ 0x70 ∷ 0x55 ∷ 0x18 ∷ 0x27 ∷ 0xC7 ∷ 0x6F ∷ 0xEF ∷ 0x41
    ∷ 0x78 ∷ 0x68 ∷ 0x86 ∷ 0xD7 ∷ 0xB8 ∷ 0xA7 ∷ 0x02 ∷ 0xE5 ∷ 0x4D ∷ 0x9B ∷ 0x4C ∷ 0x99 ∷ 0xFF ∷ 0x28 ∷ 0xC3 ∷ 0x64
    ∷ 0x6C ∷ 0x37 ∷ 0xF2 ∷ 0x46 ∷ 0xA9 ∷ 0xAF ∷ 0xB9 ∷ 0x95 ∷ 0xAE ∷ 0xA4 ∷ 0xD2 ∷ 0x4F ∷ 0x75 ∷ 0x2D ∷ 0xA8 ∷ 0xA5
    ∷ 0x1D ∷ 0x7B ∷ 0x42 ∷ 0x08 ∷ 0x60 ∷ 0xCB ∷ 0x33 ∷ 0x12 ∷ 0x94 ∷ 0xA6 ∷ 0x25 ∷ 0xCC ∷ 0x3F ∷ 0xFA ∷ 0xBF ∷ 0xBE
    ∷ 0x5A ∷ 0x67 ∷ 0x65 ∷ 0x9E ∷ 0x73 ∷ 0x07 ∷ 0x6E ∷ 0x8C ∷ 0xD9 ∷ 0x51 ∷ 0x61 ∷ 0xB5 ∷ 0xBB ∷ 0x24 ∷ 0xF6 ∷ 0x10
    ∷ 0xDE ∷ 0x82 ∷ 0xAA ∷ 0x4E ∷ 0x76 ∷ 0x81 ∷ 0x87 ∷ 0x93 ∷ 0x50 ∷ 0xC8 ∷ 0x1B ∷ 0x1F ∷ 0x63 ∷ 0xE7 ∷ 0xD0 ∷ 0x83
    ∷ 0x44 ∷ 0x31 ∷ 0x2A ∷ 0xF8 ∷ 0x03 ∷ 0x97 ∷ 0x62 ∷ 0xDD ∷ 0x16 ∷ 0x15 ∷ 0x56 ∷ 0x7C ∷ 0x6A ∷ 0x22 ∷ 0x40 ∷ 0x8E
    ∷ 0x48 ∷ 0x20 ∷ 0xA2 ∷ 0x47 ∷ 0x0E ∷ 0x35 ∷ 0xCE ∷ 0x11 ∷ 0xE3 ∷ 0x2B ∷ 0xBD ∷ 0x3E ∷ 0x2F ∷ 0x0B ∷ 0x29 ∷ 0x9C ∷ []

pub inverse : ℕ → ℕ
inverse a = get_or inverses a 0

pub inverse_lt : (a : ℕ) → a < 2 ^ 8 → inverse a < 2 ^ 8
unfolding inverse inverses
inverse_lt a h = ltb→lt (inverse a) 256 (tested_at 256 (λ a. ltb (inverse a) 256) tt a h)

pub mul_inverse : (a : ℕ) → 0 < a → a < 2 ^ 8 → mul a (inverse a) ≡ 1
mul_inverse zero p h = absurd (not-suc-le-zero p)
mul_inverse (suc a) p h =
    tested_agree 255 (λ a. mul (suc a) (inverse (suc a))) (λ a. 1) (unfold inverse inverses mul xor_sum shift times_x in tt) a (omega arith)

-- every byte but 0 has an inverse
pub has_inverse : (a : ℕ) → 0 < a → a < 2 ^ 8 → (b : ℕ) × (b < 2 ^ 8) × (mul a b ≡ 1)
has_inverse a p h = (inverse a, inverse_lt a h, mul_inverse a p h)

-- a product of bytes is 0 only where one of them is
pub no_divisors : (a b : ℕ) → 0 < a → a < 2 ^ 8 → b < 2 ^ 8 → mul a b ≡ 0 → b ≡ 0
no_divisors a b p ha hb e =
    sym (one-mul b hb) ∙ ap (λ (x : ℕ). mul x b) (sym (mul_comm (inverse a) a ∙ mul_inverse a p ha)) ∙ mul_assoc (inverse a) a b ∙ ap (mul (inverse a)) e
    ∙ mul_zero (inverse a)
