-- The laws of `xor_sum`.
-- Assumes nothing.
use mathlib.Core.Path.{◌≡◌, refl, sym, ap, ap₂, ◌∙◌}
use mathlib.Core.Bool.{Bool, true, false}
use Prim.Native.Nat.{ℕ, zero, suc, ◌+◌, ◌^◌, ◌<◌}
use native.Mathlib.Omega.{arith}
use native.Mathlib.Numerals.{add-one}
use native.Mathlib.Nat.{not-suc-le-zero, le_of_suc-le-suc, eq-or-lt_of_le}
use mathlib.Core.Logic.{⊎_elim, ◌≢◌}
use lib.Bits.{bit_xor, xor_comm, xor_zero_l, xor_zero_r, xor_lt}
use lib.Pow.{pow_pos}
use Rattle.forms.specs.Lists.{xor_sum, pick}
use Rattle.forms.proofs.Xor.{xors, xor_assoc, Additive, additive_zero}

pub xor_sum_cong : (n : ℕ) (f g : ℕ → ℕ) → ((k : ℕ) → k < n → f k ≡ g k) → xor_sum n f ≡ xor_sum n g
unfolding xor_sum
xor_sum_cong zero f g h = refl
xor_sum_cong (suc n) f g h = ap₂ bit_xor (xor_sum_cong n f g (λ k l. h k (omega arith))) (h n (omega arith))

pub xor_sum_lt : (m n : ℕ) (f : ℕ → ℕ) → ((k : ℕ) → k < n → f k < 2 ^ m) → xor_sum n f < 2 ^ m
unfolding xor_sum
xor_sum_lt m zero f h = pow_pos m
xor_sum_lt m (suc n) f h = xor_lt m (xor_sum n f) (f n) (xor_sum_lt m n f (λ k l. h k (omega arith))) (h n (omega arith))

-- what is additive goes into a sum
pub additive_xor_sum : (F : ℕ → ℕ) → Additive F → (n : ℕ) (f : ℕ → ℕ) → F (xor_sum n f) ≡ xor_sum n (λ k. F (f k))
unfolding xor_sum
additive_xor_sum F h zero f = additive_zero F h
additive_xor_sum F h (suc n) f = h (xor_sum n f) (f n) ∙ ap (λ (x : ℕ). bit_xor x (F (f n))) (additive_xor_sum F h n f)

pub xor_sum_zero : (n : ℕ) → xor_sum n (λ k. 0) ≡ 0
unfolding xor_sum
xor_sum_zero zero = refl
xor_sum_zero (suc n) = xor_zero_r (xor_sum n (λ k. 0)) ∙ xor_sum_zero n

four : (a b c d : ℕ) → bit_xor (bit_xor a b) (bit_xor c d) ≡ bit_xor (bit_xor a c) (bit_xor b d)
four a b c d = simp xors

pub xor_sum_xor : (n : ℕ) (f g : ℕ → ℕ) → xor_sum n (λ k. bit_xor (f k) (g k)) ≡ bit_xor (xor_sum n f) (xor_sum n g)
unfolding xor_sum
xor_sum_xor zero f g = refl
xor_sum_xor (suc n) f g = ap (λ (x : ℕ). bit_xor x (bit_xor (f n) (g n))) (xor_sum_xor n f g) ∙ four (xor_sum n f) (xor_sum n g) (f n) (g n)

pub xor_sum_swap : (m n : ℕ) (f : ℕ → ℕ → ℕ) → xor_sum m (λ i. xor_sum n (f i)) ≡ xor_sum n (λ j. xor_sum m (λ i. f i j))
unfolding xor_sum
xor_sum_swap zero n f = sym (xor_sum_zero n)
xor_sum_swap (suc m) n f = ap (λ (x : ℕ). bit_xor x (xor_sum n (f m))) (xor_sum_swap m n f) ∙ sym (xor_sum_xor n (λ j. xor_sum m (λ i. f i j)) (f m))

-- the first term apart
pub xor_sum_first : (n : ℕ) (f : ℕ → ℕ) → xor_sum (suc n) f ≡ bit_xor (f 0) (xor_sum n (λ k. f (suc k)))
unfolding xor_sum
xor_sum_first zero f = sym (xor_zero_r (f 0))
xor_sum_first (suc n) f = ap (λ (x : ℕ). bit_xor x (f (suc n))) (xor_sum_first n f) ∙ xor_assoc (f 0) (xor_sum n (λ k. f (suc k))) (f (suc n))

-- once round, one step on
cycle_one : (n : ℕ) (f : ℕ → ℕ) → f (suc n) ≡ f 0 → xor_sum (suc n) (λ k. f (suc k)) ≡ xor_sum (suc n) f
unfolding xor_sum
cycle_one n f e = ap (bit_xor (xor_sum n (λ k. f (suc k)))) e ∙ xor_comm (xor_sum n (λ k. f (suc k))) (f 0) ∙ sym (xor_sum_first n f)

-- once round, from anywhere
pub xor_sum_cycle : (n : ℕ) (f : ℕ → ℕ) → ((k : ℕ) → f (suc n + k) ≡ f k) → (s : ℕ) → xor_sum (suc n) (λ k. f (s + k)) ≡ xor_sum (suc n) f
xor_sum_cycle n f h zero = xor_sum_cong (suc n) (λ k. f (0 + k)) f (λ k l. ap f (omega arith))
xor_sum_cycle n f h (suc s) =
    xor_sum_cong (suc n) (λ k. f (suc s + k)) (λ k. f (s + suc k)) (λ k l. ap f (omega arith))
    ∙ cycle_one n (λ k. f (s + k)) (ap f (omega arith) ∙ h s ∙ ap f (omega arith))
    ∙ xor_sum_cycle n f h s

-- one term more, as a loop has it
pub xor_sum_next : (n : ℕ) (f : ℕ → ℕ) {x y : ℕ} → x ≡ xor_sum n f → y ≡ f n → bit_xor x y ≡ xor_sum (n + 1) f
unfolding xor_sum
xor_sum_next n f p q = ap₂ bit_xor p q ∙ ap (λ (m : ℕ). xor_sum m f) (sym (add-one n))

-- all terms but one are 0
pub xor_sum_only : (n : ℕ) (f : ℕ → ℕ) (m : ℕ) → m < n → ((k : ℕ) → k < n → k ≢ m → f k ≡ 0) → xor_sum n f ≡ f m
unfolding xor_sum
xor_sum_only zero f m l h = absurd (not-suc-le-zero l)
xor_sum_only (suc n) f m l h =
    ⊎_elim
    (λ (e : m ≡ n). ap (λ (x : ℕ). bit_xor x (f n))
    (xor_sum_cong n f (λ k. 0) (λ k i. h k (omega arith) (λ (p : k ≡ m). let z : ⊥ = omega arith in z)) ∙ xor_sum_zero n)
    ∙ xor_zero_l (f n) ∙ ap f (sym e))
    (λ (i : m < n). ap₂ bit_xor (xor_sum_only n f m i (λ k j q. h k (omega arith) q)) (h n (omega arith) (λ (p : n ≡ m). let z : ⊥ = omega arith in z))
    ∙ xor_zero_r (f m))
    (eq-or-lt_of_le (le_of_suc-le-suc l))

-- a square of terms that is the same across its diagonal: the diagonal is left
pub xor_sum_square : (n : ℕ) (f : ℕ → ℕ → ℕ) → ((j k : ℕ) → f j k ≡ f k j) → xor_sum n (λ j. xor_sum n (f j)) ≡ xor_sum n (λ j. f j j)
unfolding xor_sum
xor_sum_square zero f h = refl
xor_sum_square (suc n) f h =
    let side : xor_sum n (λ j. f j n) ≡ xor_sum n (f n) = xor_sum_cong n (λ j. f j n) (f n) (λ j l. h j n) in
    ap (λ (x : ℕ). bit_xor x (bit_xor (xor_sum n (f n)) (f n n))) (xor_sum_xor n (λ j. xor_sum n (f j)) (λ j. f j n))
    ∙ ap₂ (λ (x y : ℕ). bit_xor (bit_xor x y) (bit_xor (xor_sum n (f n)) (f n n))) (xor_sum_square n f h) side
    ∙ sorted (xor_sum n (λ j. f j j)) (xor_sum n (f n)) (f n n)
  where
    sorted : (a b c : ℕ) → bit_xor (bit_xor a b) (bit_xor b c) ≡ bit_xor a c
    sorted a b c = simp xors

-- where a loop has ended
pub xor_sum_end : {m n x : ℕ} (f : ℕ → ℕ) → m ≡ n → x ≡ xor_sum m f → x ≡ xor_sum n f
xor_sum_end f e p = p ∙ ap (λ (k : ℕ). xor_sum k f) e

-- ---- a term that a test picks

pub pick_xor : (b : Bool) → Additive (pick b)
unfolding pick
pick_xor true x y = refl
pick_xor false x y = refl

pub pick_zero : (b : Bool) → pick b 0 ≡ 0
unfolding pick
pick_zero true = refl
pick_zero false = refl

pub pick_lt : (b : Bool) (s : ℕ) → s < 2 ^ 8 → pick b s < 2 ^ 8
unfolding pick
pick_lt true s l = l
pick_lt false s l = omega arith
