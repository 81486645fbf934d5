-- Laws of `scale`, every byte of a word multiplied by one byte: its bytes, and its sum over the multiplier's bits.
-- Assumes nothing.
use mathlib.Core.Path.{◌≡◌, sym, ap, ◌∙◌}
use mathlib.Core.List.{List}
use Prim.Native.Nat.{ℕ, zero, suc, ◌+◌, ◌*◌, ◌/◌, ◌%◌, ◌^◌, ◌<◌}
use native.Mathlib.Numerals.{add-one}
use native.Mathlib.Omega.{arith}
use lib.ListN.{get_or}
use Rattle.forms.specs.Lists.{tabulate, xor_sum, iterate}
use Rattle.forms.specs.Words.{byte, each_byte}
use Rattle.forms.proofs.Xor.{parity, digit_into}
use Rattle.forms.proofs.Lists.{get_d_tabulate}
use Rattle.forms.proofs.Sums.{xor_sum_cong, xor_sum_lt, additive_xor_sum}
use Rattle.forms.proofs.Words.{byte_xor, word_ext, each_lt, byte_each, each_each}
use Rattle.field.specs.Field.{times_x, shift, mul}
use Rattle.field.specs.Mixing.{scale}
use Rattle.field.proofs.Field.{shift_lt, mul_lt, digit_lt}

pub scale_lt : (c w : ℕ) → scale c w < 2 ^ 64
unfolding scale
scale_lt c w = each_lt (λ x. mul x c) (λ x l. mul_lt x c) w

pub byte_scale : (c w i : ℕ) → i < 8 → byte (scale c w) i ≡ mul (byte w i) c
unfolding scale
byte_scale c w i l = byte_each (λ x. mul x c) (λ x m. mul_lt x c) w i l

-- every byte of a word times x^k
unfoldable pub shift_each : ℕ → ℕ → ℕ
shift_each w k = each_byte (λ x. shift x k) w

pub shift_each_lt : (w k : ℕ) → shift_each w k < 2 ^ 64
unfolding shift_each
shift_each_lt w k = each_lt (λ x. shift x k) (λ x l. shift_lt x k) w

byte_shift_each : (w k i : ℕ) → i < 8 → byte (shift_each w k) i ≡ shift (byte w i) k
unfolding shift_each
byte_shift_each w k i l = byte_each (λ x. shift x k) (λ x m. shift_lt x k) w i l

pub shift_each_zero : (w : ℕ) → w < 2 ^ 64 → w ≡ shift_each w 0
unfolding shift byte
shift_each_zero w h = word_ext w (shift_each w 0) h (shift_each_lt w 0) (λ i l. sym (byte_shift_each w 0 i l ∙ omega arith))

-- one place more, as a loop has it
pub shift_each_next : (w k : ℕ) {x : ℕ} → x ≡ each_byte times_x (shift_each w k) → x ≡ shift_each w (k + 1)
unfolding shift_each shift
shift_each_next w k e = e ∙ each_each (λ x. shift x k) times_x (λ x l. shift_lt x k) w ∙ ap (shift_each w) (sym (add-one k))

pub scale_bits : (c w : ℕ) → scale c w ≡ xor_sum 8 (λ k. c / 2 ^ k % 2 * shift_each w k)
unfolding mul
scale_bits c w =
    word_ext (scale c w) (xor_sum 8 part) (scale_lt c w) (xor_sum_lt 64 8 part (λ k l. digit_lt (parity (c / 2 ^ k)) (shift_each w k) (shift_each_lt w k)))
    (λ i l. byte_scale c w i l
    ∙ sym (additive_xor_sum (λ x. byte x i) (byte_xor i) 8 part
    ∙ xor_sum_cong 8 (λ k. byte (part k) i) (λ k. c / 2 ^ k % 2 * shift (byte w i) k)
    (λ k m. digit_into (λ x. byte x i) (byte_xor i) (parity (c / 2 ^ k)) (shift_each w k) ∙ ap (λ (x : ℕ). c / 2 ^ k % 2 * x) (byte_shift_each w k i l))))
  where
    part : ℕ → ℕ
    part k = c / 2 ^ k % 2 * shift_each w k

-- by the word's powers, made one from the other
shift_each_iterate : (w : ℕ) → w < 2 ^ 64 → (k : ℕ) → iterate k (each_byte times_x) w ≡ shift_each w k
unfolding iterate
shift_each_iterate w l zero = shift_each_zero w l
shift_each_iterate w l (suc k) = shift_each_next w k (ap (each_byte times_x) (shift_each_iterate w l k)) ∙ ap (shift_each w) (add-one k)

pub scale_powers : (c w : ℕ) → w < 2 ^ 64 → (p : List ℕ) → p ≡ tabulate 8 (λ k. iterate k (each_byte times_x) w)
    → xor_sum 8 (λ k. c / 2 ^ k % 2 * get_or p k 0) ≡ scale c w
scale_powers c w l p e =
    xor_sum_cong 8 (λ k. c / 2 ^ k % 2 * get_or p k 0) (λ k. c / 2 ^ k % 2 * shift_each w k)
    (λ k m. ap (λ (x : ℕ). c / 2 ^ k % 2 * x)
    (ap (λ (p : List ℕ). get_or p k 0) e ∙ get_d_tabulate 8 (λ k. iterate k (each_byte times_x) w) 0 k m ∙ shift_each_iterate w l k))
    ∙ sym (scale_bits c w)
