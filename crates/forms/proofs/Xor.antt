-- Laws of XOR that the library lacks, and additive maps: those that take an XOR to the XOR.
-- Assumes nothing.
use mathlib.Core.Path.{◌≡◌, refl, sym, ap, ap₂, ◌∙◌}
use Prim.Native.Nat.{ℕ, zero, suc, ◌+◌, ◌*◌, ◌/◌, ◌%◌, ◌^◌, ◌<◌, min}
use native.Mathlib.Nat.{mod-lt, add-zero, zero-mul, one-mul, add_comm}
use native.Mathlib.Numerals.{add-one}
use lib.Pow.{pow_pos, split, shr_lt}
use lib.Arith.{lt-one, bin_ind}
use native.Mathlib.Omega.{arith}
use lib.Dec.{T, eqb}
use lib.Bits.{bit_xor, bit_and, differ, and_step, and_shr, and_mod, xor_step, xor_comm, xor_self, xor_zero_r, xor_shr, xor_mod, xor_block, xor_shifted}
use Rattle.forms.proofs.Tests.{all, tested_at, tested_agree}

-- a digit is 0 or 1
pub data Digit : ℕ → Type 0 where
  off : Digit 0
  on : Digit 1

pub digit : (n : ℕ) → n < 2 → Digit n
digit zero h = off
digit (suc zero) h = on
digit (suc (suc n)) h = let z : ⊥ = omega arith in absurd z

pub parity : (n : ℕ) → Digit (n % 2)
parity n = digit (n % 2) (omega arith)

-- what a computed test says of all digits holds of three
three_digits : (f g : ℕ → ℕ → ℕ → ℕ) → T (all 2 (λ x. all 2 (λ y. all 2 (λ z. eqb (f x y z) (g x y z))))) → {x y z : ℕ} → Digit x → Digit y → Digit z → f x y z ≡ g x y z
three_digits f g t {x} {y} {z} p q r =
    tested_agree 2 (f x y) (g x y)
    (tested_at 2 (λ y. all 2 (λ z. eqb (f x y z) (g x y z))) (tested_at 2 (λ x. all 2 (λ y. all 2 (λ z. eqb (f x y z) (g x y z)))) t x (small p)) y (small q)) z (small r)
  where
    small : {d : ℕ} → Digit d → d < 2
    small off = omega arith
    small on = omega arith

differ_assoc : {x y z : ℕ} → Digit x → Digit y → Digit z → differ (bit_xor x y) z ≡ differ x (bit_xor y z)
differ_assoc = three_digits (λ x y z. differ (bit_xor x y) z) (λ x y z. differ x (bit_xor y z)) tt

pub xor_assoc : (a b c : ℕ) → bit_xor (bit_xor a b) c ≡ bit_xor a (bit_xor b c)
xor_assoc =
    bin_ind (λ (n : ℕ). (b c : ℕ) → bit_xor (bit_xor n b) c ≡ bit_xor n (bit_xor b c)) (λ b c. refl)
    (λ n ih b c. xor_step (bit_xor n b) c
    ∙ ap₂ (λ (x y : ℕ). bit_xor x (c / 2) * 2 + differ y (c % 2)) (xor_shr n b 1) (xor_mod n b 1)
    ∙ ap₂ (λ (x y : ℕ). x * 2 + y) (ih (b / 2) (c / 2)) (differ_assoc (parity n) (parity b) (parity c))
    ∙ sym (ap₂ (λ (x y : ℕ). bit_xor (n / 2) x * 2 + differ (n % 2) y) (xor_shr b c 1) (xor_mod b c 1))
    ∙ sym (xor_step n (bit_xor b c)))

pub xor_left_comm : (a b c : ℕ) → bit_xor a (bit_xor b c) ≡ bit_xor b (bit_xor a c)
xor_left_comm a b c = sym (xor_assoc a b c) ∙ ap (λ (x : ℕ). bit_xor x c) (xor_comm a b) ∙ xor_assoc b a c

pub xor_cancel : (a b : ℕ) → bit_xor a (bit_xor a b) ≡ b
xor_cancel a b = sym (xor_assoc a a b) ∙ ap (λ (x : ℕ). bit_xor x b) (xor_self a)

-- only equal numbers have the XOR 0
pub xor_zero : (a b : ℕ) → bit_xor a b ≡ 0 → a ≡ b
xor_zero a b e = sym (xor_cancel b a) ∙ ap (bit_xor b) (xor_comm b a ∙ e) ∙ xor_zero_r b

pub ruleset xors = (xor_assoc, xor_comm, xor_left_comm, xor_self, xor_cancel, xor_zero_r)

-- ---- shifts and digits

pub xor_shl : (a b k : ℕ) → bit_xor a b * 2 ^ k ≡ bit_xor (a * 2 ^ k) (b * 2 ^ k)
xor_shl a b k =
    sym (sym (ap₂ bit_xor (add-zero (a * 2 ^ k)) (add-zero (b * 2 ^ k)))
    ∙ xor_block k a b 0 0 (pow_pos k) (pow_pos k)
    ∙ add-zero (bit_xor a b * 2 ^ k))

pub digit_xor : {x y : ℕ} → Digit x → Digit y → (k : ℕ) → bit_xor x y * k ≡ bit_xor (x * k) (y * k)
digit_xor off off k = simp (zero-mul, xors)
digit_xor off on k = simp (zero-mul, one-mul, xors)
digit_xor on off k = simp (zero-mul, one-mul, xors)
digit_xor on on k = simp (zero-mul, one-mul, xors)

pub digit_times : {x : ℕ} → Digit x → (a b : ℕ) → x * bit_xor a b ≡ bit_xor (x * a) (x * b)
digit_times off a b = simp (zero-mul, xors)
digit_times on a b = simp one-mul

-- ---- what is additive is known by its values at the powers of two

abbrev pub Additive : (ℕ → ℕ) → Type 0
Additive f = (a b : ℕ) → f (bit_xor a b) ≡ bit_xor (f a) (f b)

-- one after another, and the XOR of two
pub after_xor : (f g : ℕ → ℕ) → Additive f → Additive g → Additive (λ a. f (g a))
after_xor f g hf hg a b = ap f (hg a b) ∙ hf (g a) (g b)

pub both_xor : (f g : ℕ → ℕ) → Additive f → Additive g → Additive (λ a. bit_xor (f a) (g a))
both_xor f g hf hg a b = ap₂ bit_xor (hf a b) (hg a b) ∙ simp xors

-- AND with a mask
and_digit : {x y m : ℕ} → Digit x → Digit y → Digit m → min (bit_xor x y) m ≡ differ (bit_and x m) (bit_and y m)
and_digit = three_digits (λ x y m. min (bit_xor x y) m) (λ x y m. differ (bit_and x m) (bit_and y m)) tt

pub and_xor : (m : ℕ) → Additive (λ a. bit_and a m)
and_xor m a b = go a b m
  where
    go : (a b m : ℕ) → bit_and (bit_xor a b) m ≡ bit_xor (bit_and a m) (bit_and b m)
    go =
        bin_ind (λ (n : ℕ). (b m : ℕ) → bit_and (bit_xor n b) m ≡ bit_xor (bit_and n m) (bit_and b m)) (λ b m. refl)
        (λ n ih b m. and_step (bit_xor n b) m
        ∙ ap₂ (λ (x y : ℕ). bit_and x (m / 2) * 2 + min y (m % 2)) (xor_shr n b 1) (xor_mod n b 1)
        ∙ ap₂ (λ (x y : ℕ). x * 2 + y) (ih (b / 2) (m / 2)) (and_digit (parity n) (parity b) (parity m))
        ∙ sym (ap₂ (λ (x y : ℕ). bit_xor x y * 2 + differ (bit_and n m % 2) (bit_and b m % 2)) (and_shr n m 1) (and_shr b m 1)
        ∙ ap₂ (λ (x y : ℕ). bit_xor (bit_and (n / 2) (m / 2)) (bit_and (b / 2) (m / 2)) * 2 + differ x y) (and_mod n m 1) (and_mod b m 1))
        ∙ sym (xor_step (bit_and n m) (bit_and b m)))

pub additive_zero : (f : ℕ → ℕ) → Additive f → f 0 ≡ 0
additive_zero f h = sym (xor_cancel (f 0) (f 0)) ∙ ap (bit_xor (f 0)) (sym (h 0 0)) ∙ xor_self (f 0)

-- a digit goes through what is additive
pub digit_into : (f : ℕ → ℕ) → Additive f → {d : ℕ} → Digit d → (a : ℕ) → f (d * a) ≡ d * f a
digit_into f h off a = ap f (zero-mul a) ∙ additive_zero f h ∙ sym (zero-mul (f a))
digit_into f h on a = ap f (one-mul a) ∙ sym (one-mul (f a))

module _ (f g : ℕ → ℕ) (hf : Additive f) (hg : Additive g) where
  zeros : f 0 ≡ g 0
  zeros = additive_zero f hf ∙ sym (additive_zero g hg)

  shifted : (n : ℕ) → f (2 ^ n) ≡ g (2 ^ n) → {d : ℕ} → Digit d → f (d * 2 ^ n) ≡ g (d * 2 ^ n)
  shifted n e off = rw (zero-mul (2 ^ n)) zeros
  shifted n e on = rw (one-mul (2 ^ n)) e

  pub by_basis : (n : ℕ) → ((k : ℕ) → k < n → f (2 ^ k) ≡ g (2 ^ k)) → (a : ℕ) → a < 2 ^ n → f a ≡ g a
  by_basis zero h a l = rw (lt-one l) zeros
  by_basis (suc n) h a l =
      let d : ℕ = a / 2 ^ n in
      let r : ℕ = a % 2 ^ n in
      let dig : Digit d = digit d (shr_lt 1 n (rw (add_comm 1 n, add-one) l)) in
      let parts : a ≡ bit_xor (d * 2 ^ n) r = sym (xor_shifted d n r (mod-lt a (pow_pos n)) ∙ split a n) in
      ap f parts ∙ hf (d * 2 ^ n) r
      ∙ ap₂ bit_xor (shifted n (h n (omega arith)) dig) (by_basis n (λ k m. h k (omega arith)) r (mod-lt a (pow_pos n)))
      ∙ sym (ap g parts ∙ hg (d * 2 ^ n) r)
