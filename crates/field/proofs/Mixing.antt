-- The laws of mixing by any row: its bytes, 4.3's product, XOR, rotation by whole bytes, one row after another.
-- Assumes nothing.
use mathlib.Core.Path.{◌≡◌, sym, ap, ap₂, ◌∙◌}
use mathlib.Core.List.{List, []}
use Prim.Native.Nat.{ℕ, ◌+◌, ◌-◌, ◌*◌, ◌/◌, ◌%◌, ◌^◌, ◌≤◌, ◌<◌}
use native.Mathlib.Nat.{add_comm, add-mul-mod_self_right}
use native.Mathlib.Omega.{arith}
use borrow.Author.Tests.{eq-eqb, ne_eqb}
use lib.Dec.{eqb}
use lib.ListN.{get_or}
use lib.Bits.{bit_xor, xor_lt}
use Rattle.forms.specs.Lists.{tabulate, xor_sum, pick}
use Rattle.forms.specs.Words.{byte, rotl}
use Rattle.forms.proofs.Xor.{Additive}
use Rattle.forms.proofs.Lists.{get_d_tabulate, tabulate_cong}
use Rattle.forms.proofs.Sums.{xor_sum_cong, xor_sum_lt, additive_xor_sum, xor_sum_xor, xor_sum_swap, xor_sum_only, xor_sum_cycle}
use Rattle.forms.proofs.Words.{byte_xor, join_lt, byte_join, word_ext, rotl_lt, byte_rotl}
use Rattle.field.specs.Field.{mul}
use Rattle.field.specs.Mixing.{element, matrix, dot, mix_by, mix, product, scale}
use Rattle.field.proofs.Field.{mul_xor_l, mul_xor_r, mul_assoc, mul_comm, mul_lt}
use Rattle.field.proofs.Scale.{scale_lt, byte_scale}

-- the cyclic product of two functions of the numbers below 8
unfoldable pub conv : (ℕ → ℕ) → (ℕ → ℕ) → ℕ → ℕ
conv x g i = xor_sum 8 (λ j. mul (x j) (g ((i + 8 - j) % 8)))

conv_cong : (x y g : ℕ → ℕ) (i : ℕ) → ((j : ℕ) → j < 8 → x j ≡ y j) → conv x g i ≡ conv y g i
unfolding conv
conv_cong x y g i h =
    xor_sum_cong 8 (λ j. mul (x j) (g ((i + 8 - j) % 8))) (λ j. mul (y j) (g ((i + 8 - j) % 8))) (λ j l. ap (λ (a : ℕ). mul a (g ((i + 8 - j) % 8))) (h j l))

-- ---- the bytes of the mixed word

pub dot_lt : (r : List ℕ) (w : ℕ) → dot r w < 2 ^ 8
unfolding dot
dot_lt r w = xor_sum_lt 8 8 (λ j. mul (byte w j) (get_or r j 0)) (λ j l. mul_lt (byte w j) (get_or r j 0))

pub mix_by_lt : (m : List (List ℕ)) (w : ℕ) → mix_by m w < 2 ^ 64
unfolding mix_by
mix_by_lt m w = join_lt 8 (λ i. dot (get_or m i []) w) (λ i. dot_lt (get_or m i []) w)

pub mix_lt : (g : List ℕ) (w : ℕ) → mix g w < 2 ^ 64
unfolding mix
mix_lt g w = mix_by_lt (matrix g) w

pub matrix_element : (g : List ℕ) (i j : ℕ) → i < 8 → j < 8 → get_or (get_or (matrix g) i []) j 0 ≡ element g i j
unfolding matrix
matrix_element g i j hi hj =
    ap (λ (r : List ℕ). get_or r j 0) (get_d_tabulate 8 (λ i. tabulate 8 (λ j. element g i j)) [] i hi) ∙ get_d_tabulate 8 (element g i) 0 j hj

pub byte_mix_by : (m : List (List ℕ)) (w i : ℕ) → i < 8 → byte (mix_by m w) i ≡ dot (get_or m i []) w
unfolding mix_by
byte_mix_by m w i l = byte_join 8 (λ i. dot (get_or m i []) w) (λ i. dot_lt (get_or m i []) w) i l

pub byte_mix : (g : List ℕ) (w i : ℕ) → i < 8 → byte (mix g w) i ≡ conv (byte w) (λ k. get_or g k 0) i
unfolding mix dot element conv
byte_mix g w i l =
    byte_mix_by (matrix g) w i l
    ∙ xor_sum_cong 8 (λ j. mul (byte w j) (get_or (get_or (matrix g) i []) j 0)) (λ j. mul (byte w j) (element g i j))
    (λ j m. ap (mul (byte w j)) (matrix_element g i j l m))

-- ---- 4.3: the mixed word's bytes are the word's bytes times the row, modulo x^8 + 1

-- 4.3's sum, over the exponents of both factors
abbrev exponents : (ℕ → ℕ) → (ℕ → ℕ) → ℕ → ℕ
exponents x y i = xor_sum 8 (λ j. xor_sum 8 (λ k. pick (eqb ((j + k) % 8) i) (mul (x j) (y k))))

exponents_conv : (x y : ℕ → ℕ) (i : ℕ) → i < 8 → exponents x y i ≡ conv x y i
unfolding conv pick
exponents_conv x y i l =
    xor_sum_cong 8 _ (λ j. mul (x j) (y ((i + 8 - j) % 8))) (λ j m.
    xor_sum_only 8 (λ k. pick (eqb ((j + k) % 8) i) (mul (x j) (y k))) ((i + 8 - j) % 8) (omega arith)
    (λ k n q. rw (ne_eqb ((j + k) % 8) i (λ (p : (j + k) % 8 ≡ i). q (omega arith))))
    ∙ rw (eq-eqb ((j + (i + 8 - j) % 8) % 8) i (omega arith)))

exponents_comm : (x y : ℕ → ℕ) (i : ℕ) → exponents x y i ≡ exponents y x i
exponents_comm x y i =
    xor_sum_swap 8 8 (λ j k. pick (eqb ((j + k) % 8) i) (mul (x j) (y k)))
    ∙ xor_sum_cong 8 _ (λ k. xor_sum 8 (λ j. pick (eqb ((k + j) % 8) i) (mul (y k) (x j)))) (λ k m.
    xor_sum_cong 8 _ (λ j. pick (eqb ((k + j) % 8) i) (mul (y k) (x j))) (λ j n.
    ap₂ (λ (s p : ℕ). pick (eqb (s % 8) i) p) (add_comm j k) (mul_comm (x j) (y k))))

-- the order of the factors doesn't matter
pub conv_comm : (x y : ℕ → ℕ) (i : ℕ) → i < 8 → conv x y i ≡ conv y x i
conv_comm x y i l = sym (exponents_conv x y i l) ∙ exponents_comm x y i ∙ exponents_conv y x i l

pub product_conv : (g h : List ℕ) → product g h ≡ tabulate 8 (conv (λ j. get_or g j 0) (λ k. get_or h k 0))
unfolding product
product_conv g h = tabulate_cong 8 _ (conv (λ j. get_or g j 0) (λ k. get_or h k 0)) (exponents_conv (λ j. get_or g j 0) (λ k. get_or h k 0))

pub get_or_product : (g h : List ℕ) (i : ℕ) → i < 8 → get_or (product g h) i 0 ≡ conv (λ j. get_or g j 0) (λ k. get_or h k 0) i
get_or_product g h i l = ap (λ (r : List ℕ). get_or r i 0) (product_conv g h) ∙ get_d_tabulate 8 (conv (λ j. get_or g j 0) (λ k. get_or h k 0)) 0 i l

pub mix_product : (g : List ℕ) (w : ℕ) → tabulate 8 (byte (mix g w)) ≡ product (tabulate 8 (byte w)) g
mix_product g w =
    tabulate_cong 8 (byte (mix g w)) (conv (λ j. get_or (tabulate 8 (byte w)) j 0) g')
    (λ i l. byte_mix g w i l ∙ conv_cong (byte w) (λ j. get_or (tabulate 8 (byte w)) j 0) g' i (λ j m. sym (get_d_tabulate 8 (byte w) 0 j m)))
    ∙ sym (product_conv (tabulate 8 (byte w)) g)
  where
    g' : ℕ → ℕ
    g' k = get_or g k 0

-- coefficient by coefficient: the XOR of the word's products by them, each rotated to its coefficient's place
pub mix_coefficients : (g : List ℕ) (w : ℕ) → mix g w ≡ xor_sum 8 (λ k. rotl (scale (get_or g k 0) w) (8 * k))
unfolding conv
mix_coefficients g w =
    word_ext (mix g w) (xor_sum 8 place) (mix_lt g w) (xor_sum_lt 64 8 place (λ k l. rotl_lt (scale (g' k) w) (8 * k) (omega arith) (scale_lt (g' k) w)))
    (λ i l. byte_mix g w i l ∙ conv_comm (byte w) g' i l
    ∙ sym (additive_xor_sum (λ x. byte x i) (byte_xor i) 8 place
    ∙ xor_sum_cong 8 (λ k. byte (place k) i) (λ k. mul (g' k) (byte w ((i + 8 - k) % 8)))
    (λ k m. byte_rotl (scale (g' k) w) k i (scale_lt (g' k) w) (omega arith) l ∙ byte_scale (g' k) w ((i + 8 - k) % 8) (omega arith)
    ∙ mul_comm (byte w ((i + 8 - k) % 8)) (g' k))))
  where
    g' : ℕ → ℕ
    g' k = get_or g k 0

    place : ℕ → ℕ
    place k = rotl (scale (g' k) w) (8 * k)

-- ---- XOR

pub dot_xor : (r : List ℕ) → Additive (dot r)
unfolding dot
dot_xor r a b =
    xor_sum_cong 8 (λ j. mul (byte (bit_xor a b) j) (at j)) (λ j. bit_xor (mul (byte a j) (at j)) (mul (byte b j) (at j)))
    (λ j l. ap (λ (x : ℕ). mul x (at j)) (byte_xor j a b) ∙ mul_xor_l (byte a j) (byte b j) (at j))
    ∙ xor_sum_xor 8 (λ j. mul (byte a j) (at j)) (λ j. mul (byte b j) (at j))
  where
    at : ℕ → ℕ
    at j = get_or r j 0

pub mix_by_xor : (m : List (List ℕ)) → Additive (mix_by m)
mix_by_xor m a b =
    word_ext (mix_by m (bit_xor a b)) (bit_xor (mix_by m a) (mix_by m b)) (mix_by_lt m (bit_xor a b)) (xor_lt 64 (mix_by m a) (mix_by m b) (mix_by_lt m a) (mix_by_lt m b))
    (λ k l. byte_mix_by m (bit_xor a b) k l ∙ dot_xor (get_or m k []) a b
    ∙ sym (byte_xor k (mix_by m a) (mix_by m b) ∙ ap₂ bit_xor (byte_mix_by m a k l) (byte_mix_by m b k l)))

pub mix_xor : (g : List ℕ) → Additive (mix g)
unfolding mix
mix_xor g = mix_by_xor (matrix g)

-- ---- rotation by whole bytes

mod8 : (x y p q : ℕ) → x + p * 8 ≡ y + q * 8 → x % 8 ≡ y % 8
mod8 x y p q e = sym (add-mul-mod_self_right x p 8) ∙ ap (λ (z : ℕ). z % 8) e ∙ add-mul-mod_self_right y q 8

index : (i s j : ℕ) → j < 8 → (i + 8 - j) % 8 ≡ ((i + s) % 8 + 8 - (s + j) % 8) % 8
index i s j h = mod8 (i + 8 - j) ((i + s) % 8 + 8 - (s + j) % 8) ((s + j) / 8) ((i + s) / 8) (omega arith)

-- x turned by k places turns the cyclic product by as many
turn : (x g : ℕ → ℕ) (k i : ℕ) → k ≤ 8 → conv (λ j. x ((j + 8 - k) % 8)) g i ≡ conv x g ((i + 8 - k) % 8)
unfolding conv
turn x g k i hk =
    xor_sum_cong 8 (λ j. mul (x ((j + 8 - k) % 8)) (g ((i + 8 - j) % 8))) (λ j. F ((8 - k) + j))
    (λ j l. ap₂ (λ (a b : ℕ). mul (x a) (g b)) (omega arith) (index i (8 - k) j l ∙ ap (λ (m : ℕ). (m % 8 + 8 - (8 - k + j) % 8) % 8) (omega arith)))
    ∙ xor_sum_cycle 7 F (λ t. ap₂ (λ (a b : ℕ). mul (x a) (g b)) (omega arith) (omega arith)) (8 - k)
    ∙ xor_sum_cong 8 F (λ j. mul (x j) (g ((i' + 8 - j) % 8))) (λ j l. ap₂ (λ (a b : ℕ). mul (x a) (g b)) (omega arith) (omega arith))
  where
    i' : ℕ
    i' = (i + 8 - k) % 8

    F : ℕ → ℕ
    F t = mul (x (t % 8)) (g ((i' + 8 - t % 8) % 8))

pub mix_rotl : (g : List ℕ) (w k : ℕ) → w < 2 ^ 64 → k ≤ 8 → mix g (rotl w (8 * k)) ≡ rotl (mix g w) (8 * k)
mix_rotl g w k hw hk =
    word_ext (mix g (rotl w (8 * k))) (rotl (mix g w) (8 * k)) (mix_lt g (rotl w (8 * k))) (rotl_lt (mix g w) (8 * k) (omega arith) (mix_lt g w))
    (λ i l. byte_mix g (rotl w (8 * k)) i l
    ∙ conv_cong (byte (rotl w (8 * k))) (λ j. byte w ((j + 8 - k) % 8)) (λ t. get_or g t 0) i (λ j m. byte_rotl w k j hw hk m)
    ∙ turn (byte w) (λ t. get_or g t 0) k i hk
    ∙ sym (byte_rotl (mix g w) k i (mix_lt g w) hk l ∙ byte_mix g w ((i + 8 - k) % 8) (omega arith)))

-- ---- one row and then another

pub mix_mix : (g h : List ℕ) (w : ℕ) → mix h (mix g w) ≡ mix (product g h) w
unfolding conv
mix_mix g h w =
    word_ext (mix h (mix g w)) (mix (product g h) w) (mix_lt h (mix g w)) (mix_lt (product g h) w)
    (λ i l. byte_mix h (mix g w) i l
    ∙ xor_sum_cong 8 (λ j. mul (byte (mix g w) j) (h' ((i + 8 - j) % 8))) (λ j. xor_sum 8 (λ k. each i j k))
    (λ j m. ap (λ (x : ℕ). mul x (h' ((i + 8 - j) % 8))) (byte_mix g w j m)
    ∙ additive_xor_sum (λ x. mul x (h' ((i + 8 - j) % 8))) (λ x y. mul_xor_l x y (h' ((i + 8 - j) % 8))) 8 (λ k. mul (byte w k) (g' ((j + 8 - k) % 8)))
    ∙ xor_sum_cong 8 (λ k. mul (mul (byte w k) (g' ((j + 8 - k) % 8))) (h' ((i + 8 - j) % 8))) (each i j)
    (λ k n. mul_assoc (byte w k) (g' ((j + 8 - k) % 8)) (h' ((i + 8 - j) % 8))))
    ∙ xor_sum_swap 8 8 (each i)
    ∙ xor_sum_cong 8 (λ k. xor_sum 8 (λ j. each i j k)) (λ k. mul (byte w k) (get_or (product g h) ((i + 8 - k) % 8) 0))
    (λ k n. sym (additive_xor_sum (mul (byte w k)) (mul_xor_r (byte w k)) 8 (λ j. mul (g' ((j + 8 - k) % 8)) (h' ((i + 8 - j) % 8))))
    ∙ ap (mul (byte w k)) (turn g' h' k i (omega arith) ∙ sym (get_or_product g h ((i + 8 - k) % 8) (omega arith))))
    ∙ sym (byte_mix (product g h) w i l))
  where
    g' : ℕ → ℕ
    g' k = get_or g k 0

    h' : ℕ → ℕ
    h' k = get_or h k 0

    each : ℕ → ℕ → ℕ → ℕ
    each i j k = mul (byte w k) (mul (g' ((j + 8 - k) % 8)) (h' ((i + 8 - j) % 8)))

-- a row matters by its first eight bytes alone
pub mix_cong : (g h : List ℕ) → ((k : ℕ) → k < 8 → get_or g k 0 ≡ get_or h k 0) → (w : ℕ) → mix g w ≡ mix h w
unfolding conv
mix_cong g h e w =
    word_ext (mix g w) (mix h w) (mix_lt g w) (mix_lt h w)
    (λ i l. byte_mix g w i l
    ∙ xor_sum_cong 8 (λ j. mul (byte w j) (get_or g ((i + 8 - j) % 8) 0)) (λ j. mul (byte w j) (get_or h ((i + 8 - j) % 8) 0))
    (λ j m. ap (mul (byte w j)) (e ((i + 8 - j) % 8) (omega arith)))
    ∙ sym (byte_mix h w i l))
