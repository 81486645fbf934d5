-- Powers in the field: their sums of exponents, squares, and that a byte's 256th power is the byte, so 1 / a is its 254th.
-- Assumes nothing.
use mathlib.Core.Path.{◌≡◌, refl, sym, ap, ◌∙◌}
use Prim.Native.Nat.{ℕ, zero, suc, ◌+◌, ◌*◌, ◌/◌, ◌%◌, ◌^◌, ◌<◌}
use native.Mathlib.Nat.{add-zero, add-suc, pos_of_ne-zero}
use native.Mathlib.Omega.{arith}
use Rattle.forms.specs.Lists.{xor_sum, iterate}
use Rattle.forms.proofs.Xor.{xors, Additive, by_basis}
use Rattle.forms.proofs.Tests.{tested_agree}
use Rattle.field.specs.Field.{mul, power, shift, times_x}
use Rattle.field.proofs.Field.{mul_xor_l, mul_xor_r, mul_assoc, mul_comm, mul_lt, one-mul, mul-one, inverse, mul_inverse, no_divisors}

pub power_none : (a : ℕ) → power a 0 ≡ 1
unfolding power
power_none a = refl

pub power_next : (a n : ℕ) → power a (suc n) ≡ mul (power a n) a
unfolding power
power_next a n = refl

pub power_lt : (a n : ℕ) → power a n < 2 ^ 8
unfolding power
power_lt a zero = omega arith
power_lt a (suc n) = mul_lt (power a n) a

pub power_add : (a m n : ℕ) → power a (m + n) ≡ mul (power a m) (power a n)
unfolding power
power_add a m zero = ap (power a) (add-zero m) ∙ sym (mul-one (power a m) (power_lt a m))
power_add a m (suc n) =
    ap (power a) (add-suc m n) ∙ power_next a (m + n) ∙ ap (λ (x : ℕ). mul x a) (power_add a m n) ∙ mul_assoc (power a m) (power a n) a

-- of a byte that isn't 0
pub power_pos : (a n : ℕ) → 0 < a → a < 2 ^ 8 → 0 < power a n
unfolding power
power_pos a zero p h = omega arith
power_pos a (suc n) p h =
    pos_of_ne-zero (λ e. let z : a ≡ 0 = no_divisors (power a n) a (power_pos a n p h) (power_lt a n) h e in let f : ⊥ = omega arith in f)

-- ---- squares

abbrev pub square : ℕ → ℕ
square a = mul a a

pub square_xor : Additive square
square_xor a b = simp (mul_xor_l, mul_xor_r, mul_comm, xors)

-- half the exponent, of the square
pub power_square : (a n : ℕ) → power (square a) n ≡ power a (2 * n)
power_square a zero = unfold power in refl
power_square a (suc n) =
    power_next (square a) n ∙ ap (λ (x : ℕ). mul x (square a)) (power_square a n) ∙ sym (mul_assoc (power a (2 * n)) a a)
    ∙ ap (λ (x : ℕ). mul x a) (sym (power_next a (2 * n))) ∙ sym (power_next a (suc (2 * n))) ∙ ap (power a) (omega arith)

-- as a loop goes over the bits of an exponent: v x^m is kept where v takes in x if m is odd, and x^2 and m / 2 come next
pub power_even : (v x m : ℕ) → (m % 2 ≡ 1 → ⊥) → mul v (power (square x) (m / 2)) ≡ mul v (power x m)
power_even v x m e = let h : 2 * (m / 2) ≡ m = omega arith in ap (mul v) (power_square x (m / 2) ∙ ap (power x) h)

pub power_odd : (v x m : ℕ) → m % 2 ≡ 1 → mul (mul v x) (power (square x) (m / 2)) ≡ mul v (power x m)
power_odd v x m e =
    let h : suc (2 * (m / 2)) ≡ m = omega arith in
    mul_assoc v x (power (square x) (m / 2))
    ∙ ap (mul v) (mul_comm x (power (square x) (m / 2)) ∙ ap (λ (y : ℕ). mul y x) (power_square x (m / 2)) ∙ sym (power_next x (2 * (m / 2))) ∙ ap (power x) h)

-- squares of squares are additive, so the eighth is the byte itself
squares_xor : (k : ℕ) → Additive (iterate k square)
unfolding iterate
squares_xor zero a b = refl
squares_xor (suc k) a b = ap square (squares_xor k a b) ∙ square_xor (iterate k square a) (iterate k square b)

squares_power : (k a : ℕ) → a < 2 ^ 8 → iterate k square a ≡ power a (2 ^ k)
unfolding iterate power
squares_power zero a h = sym (one-mul a h)
squares_power (suc k) a h =
    let e : 2 ^ k + 2 ^ k ≡ 2 ^ suc k = omega arith in
    ap square (squares_power k a h) ∙ sym (power_add a (2 ^ k) (2 ^ k)) ∙ ap (power a) e

pub power_256 : (a : ℕ) → a < 2 ^ 8 → power a 256 ≡ a
power_256 a h =
    sym (squares_power 8 a h)
    ∙ by_basis (iterate 8 square) (λ x. x) (squares_xor 8) (λ x y. refl) 8
    (tested_agree 8 (λ k. iterate 8 square (2 ^ k)) (λ k. 2 ^ k) (unfold iterate mul xor_sum shift times_x in tt)) a h

pub power_255 : (a : ℕ) → 0 < a → a < 2 ^ 8 → mul a (power a 254) ≡ 1
power_255 a p h =
    mul_comm a (power a 254) ∙ sym (mul-one (mul (power a 254) a) (mul_lt (power a 254) a)) ∙ ap (mul (mul (power a 254) a)) (sym (mul_inverse a p h))
    ∙ sym (mul_assoc (mul (power a 254) a) a (inverse a))
    ∙ ap (λ (x : ℕ). mul x (inverse a)) (ap (λ (x : ℕ). mul x a) (sym (power_next a 254)) ∙ sym (power_next a 255) ∙ power_256 a h)
    ∙ mul_inverse a p h
