-- A table that follows the rule does what substitution and mixing do, for any row and substitution.
-- Assumes nothing.
use mathlib.Core.Path.{◌≡◌, sym, ap, ap₂, ◌∙◌}
use mathlib.Core.List.{List}
use Prim.Native.Nat.{ℕ, ◌+◌, ◌-◌, ◌*◌, ◌/◌, ◌%◌, ◌^◌, ◌≤◌, ◌<◌}
use native.Mathlib.Nat.{div-eq_of_lt, le_trans}
use native.Mathlib.Omega.{arith}
use lib.ListN.{get_or}
use lib.Pow.{pow_mono}
use Rattle.forms.specs.Lists.{xor_sum}
use Rattle.forms.specs.Words.{byte, rotl, each_byte}
use Rattle.forms.proofs.Lists.{get_d_tabulate}
use Rattle.forms.proofs.Sums.{xor_sum_cong, xor_sum_lt, xor_sum_only, additive_xor_sum}
use Rattle.forms.proofs.Words.{byte_lt, byte_xor, join_lt, byte_join, word_ext, rotl_lt, byte_rotl, OnBytes, byte_each}
use Rattle.field.specs.Field.{mul}
use Rattle.field.specs.Substitution.{sub}
use Rattle.field.specs.Mixing.{LCM, mix, scale}
use Rattle.field.specs.Merged.{entry, merged, lookup}
use Rattle.field.proofs.Field.{mul_lt, zero-mul, one-mul, mul_comm, mul_assoc}
use Rattle.field.proofs.Scale.{scale_lt, byte_scale}
use Rattle.field.proofs.Mixing.{conv, byte_mix, mix_lt}

pub LCM_lt : (g : List ℕ) (x : ℕ) → LCM g x < 2 ^ 64
unfolding LCM
LCM_lt g x = join_lt 8 (λ i. mul x (get_or g i 0)) (λ i. mul_lt x (get_or g i 0))

pub byte_LCM : (g : List ℕ) (x i : ℕ) → i < 8 → byte (LCM g x) i ≡ mul x (get_or g i 0)
unfolding LCM
byte_LCM g x i l = byte_join 8 (λ i. mul x (get_or g i 0)) (λ i. mul_lt x (get_or g i 0)) i l

-- 4.3: the mixed word is the XOR of the products by the row, each rotated to its byte's place
pub mix_rotated : (g : List ℕ) (w : ℕ) → mix g w ≡ xor_sum 8 (λ j. rotl (LCM g (byte w j)) (8 * j))
unfolding conv
mix_rotated g w =
    word_ext (mix g w) (xor_sum 8 place) (mix_lt g w) (xor_sum_lt 64 8 place (λ j l. rotl_lt (LCM g (byte w j)) (8 * j) (omega arith) (LCM_lt g (byte w j))))
    (λ i l. byte_mix g w i l
    ∙ sym (additive_xor_sum (λ x. byte x i) (byte_xor i) 8 place
    ∙ xor_sum_cong 8 (λ j. byte (place j) i) (λ j. mul (byte w j) (get_or g ((i + 8 - j) % 8) 0))
    (λ j m. byte_rotl (LCM g (byte w j)) j i (LCM_lt g (byte w j)) (omega arith) l ∙ byte_LCM g (byte w j) ((i + 8 - j) % 8) (omega arith))))
  where
    place : ℕ → ℕ
    place j = rotl (LCM g (byte w j)) (8 * j)

-- a byte by itself is mixed to its product by the row
pub mix_byte : (g : List ℕ) (x : ℕ) → x < 2 ^ 8 → mix g x ≡ LCM g x
unfolding conv byte
mix_byte g x h =
    word_ext (mix g x) (LCM g x) (mix_lt g x) (LCM_lt g x)
    (λ i l. byte_mix g x i l
    ∙ xor_sum_only 8 (λ j. mul (byte x j) (get_or g ((i + 8 - j) % 8) 0)) 0 (omega arith)
    (λ j m q. ap (λ (b : ℕ). mul b (get_or g ((i + 8 - j) % 8) 0)) (ap (λ (y : ℕ). y % 2 ^ 8) (nothing_above j (omega arith))) ∙ zero-mul (get_or g ((i + 8 - j) % 8) 0))
    ∙ ap₂ (λ (b k : ℕ). mul b (get_or g k 0)) (omega arith) (omega arith)
    ∙ sym (byte_LCM g x i l))
  where
    nothing_above : (j : ℕ) → 0 < j → x / 2 ^ (8 * j) ≡ 0
    nothing_above j p = let e : 8 ≤ 8 * j = omega arith in div-eq_of_lt (le_trans h (pow_mono e))

-- so a byte's product by the row is the row, as the word that 1 is mixed to, multiplied by that byte
pub LCM_scale : (g : List ℕ) (x : ℕ) → LCM g x ≡ scale x (mix g 1)
LCM_scale g x =
    word_ext (LCM g x) (scale x (mix g 1)) (LCM_lt g x) (scale_lt x (mix g 1))
    (λ i l. byte_LCM g x i l ∙ mul_comm x (get_or g i 0)
    ∙ sym (byte_scale x (mix g 1) i l ∙ ap (λ (b : ℕ). mul b x) (ap (λ (w : ℕ). byte w i) (mix_byte g 1 (omega arith)) ∙ byte_LCM g 1 i l)
    ∙ mul_assoc 1 (get_or g i 0) x ∙ one-mul (mul (get_or g i 0) x) (mul_lt (get_or g i 0) x)))

-- the rule: the table's word for b is S(b) multiplied by the row
pub lookup_mix : (g s t : List ℕ) → OnBytes (sub s) → ((b : ℕ) → b < 2 ^ 8 → get_or t b 0 ≡ entry g s b) → (w : ℕ)
    → lookup t w ≡ mix g (each_byte (sub s) w)
unfolding lookup entry
lookup_mix g s t on_bytes rule w =
    xor_sum_cong 8 (λ j. rotl (get_or t (byte w j) 0) (8 * j)) (λ j. rotl (LCM g (byte (each_byte (sub s) w) j)) (8 * j))
    (λ j l. ap (λ (x : ℕ). rotl x (8 * j)) (rule (byte w j) (byte_lt w j) ∙ ap (LCM g) (sym (byte_each (sub s) on_bytes w j l))))
    ∙ sym (mix_rotated g (each_byte (sub s) w))

pub get_or_merged : (g s : List ℕ) (b : ℕ) → b < 2 ^ 8 → get_or (merged g s) b 0 ≡ entry g s b
unfolding merged
get_or_merged g s b l = get_d_tabulate 256 (entry g s) 0 b l

pub lookup_merged : (g s : List ℕ) → OnBytes (sub s) → (w : ℕ) → lookup (merged g s) w ≡ mix g (each_byte (sub s) w)
lookup_merged g s on_bytes w = lookup_mix g s (merged g s) on_bytes (get_or_merged g s) w
