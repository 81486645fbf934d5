-- Rows of eight bytes under 4.3's product: a commutative ring, whose sum of coefficients multiplies. A row is its word's bytes, and the word of a
-- product is the word of the one factor mixed by the other, so the laws of rows are those of mixing.
-- Assumes nothing.
use mathlib.Core.Path.{◌≡◌, refl, sym, ap, ap₂, ◌∙◌, subst}
use mathlib.Core.List.{List, ◌∷◌}
use Prim.Native.Nat.{ℕ, zero, suc, ◌+◌, ◌-◌, ◌%◌, ◌^◌, ◌<◌}
use native.Mathlib.Omega.{arith}
use lib.ListN.{get_or, replicate}
use mir.Syntax.{w8}
use mir.Val.{Val}
use denote.Laws.{Is}
use denote.Plain.{UInt}
use denote.Array.{Array}
use borrow.Kind.Array.{good_length, e_int}
use borrow.Author.Rules.{elem_Fits}
use Rattle.forms.specs.Lists.{tabulate, xor_sum, pick, iterate}
use Rattle.forms.specs.Words.{byte, join}
use Rattle.forms.proofs.Lists.{length_tabulate, tabulate_cong, tabulated}
use Rattle.forms.proofs.Sums.{xor_sum_cong, xor_sum_lt, additive_xor_sum, xor_sum_swap, xor_sum_cycle}
use Rattle.forms.proofs.Words.{byte_lt, join_lt, byte_join, word_ext}
use Rattle.forms.proofs.Bytes.{tabulate_small}
use Rattle.field.specs.Field.{mul, power}
use Rattle.field.specs.Mixing.{mix, product, row_sum, scale}
use Rattle.field.proofs.Field.{mul_xor_l, mul_xor_r, mul_assoc, mul_lt, one-mul, mul-one, zero-mul}
use Rattle.field.proofs.Power.{power_lt}
use Rattle.field.proofs.Scale.{scale_lt, byte_scale}
use Rattle.field.proofs.Mixing.{conv, conv_comm, product_conv, get_or_product, mix_product, mix_mix}
use Rattle.field.proofs.Eight.{single, mix_single, mix_eightfold}
use Rattle.rows.specs.Inverse.{Row, constant_row, neutral, row_power}

-- ---- rows and words

abbrev pub bytes_of : ℕ → List ℕ
bytes_of w = tabulate 8 (byte w)

abbrev pub word_of : List ℕ → ℕ
word_of g = join 8 (λ i. get_or g i 0)

pub bytes_row : (w : ℕ) → Row (bytes_of w)
bytes_row w = (length_tabulate 8 (byte w), tabulate_small 8 (byte w) (2 ^ 8) (omega arith) (byte_lt w))

-- an array of eight bytes that a function is handed
pub given_row : (g : List ℕ) (vs : List Val) → Is (Array (UInt w8) 8) g vs → Row g
given_row g vs p = (good_length (e_int w8) 8 g vs p, λ i. (elem_Fits w8 w8 g _ i p.1.1 tt).fits)

-- its word's bytes are the row's
pub byte_word : (g : List ℕ) {w : ℕ} → Row g → w ≡ word_of g → (k : ℕ) → k < 8 → byte w k ≡ get_or g k 0
byte_word g r e k l = ap (λ (w : ℕ). byte w k) e ∙ byte_join 8 (λ i. get_or g i 0) r.1 k l

pub bytes_word : (g : List ℕ) → Row g → bytes_of (word_of g) ≡ g
bytes_word g r = sym (tabulated 8 (byte (word_of g)) 0 g r.0 (λ k l. sym (byte_join 8 (λ i. get_or g i 0) r.1 k l)))

pub product_word : (g h : List ℕ) → Row g → product g h ≡ bytes_of (mix h (word_of g))
product_word g h r = ap (λ (x : List ℕ). product x h) (sym (bytes_word g r)) ∙ sym (mix_product h (word_of g))

pub product_row : (g h : List ℕ) → Row g → Row (product g h)
product_row g h r = subst Row (sym (product_word g h r)) (bytes_row (mix h (word_of g)))

-- ---- the order and the grouping don't matter

pub product_comm : (g h : List ℕ) → product g h ≡ product h g
product_comm g h =
    product_conv g h ∙ tabulate_cong 8 _ _ (conv_comm (λ j. get_or g j 0) (λ k. get_or h k 0)) ∙ sym (product_conv h g)

pub product_assoc : (f g h : List ℕ) → Row f → product (product f g) h ≡ product f (product g h)
product_assoc f g h r =
    ap (λ (x : List ℕ). product x h) (product_word f g r) ∙ sym (mix_product h (mix g (word_of f))) ∙ ap bytes_of (mix_mix g h (word_of f))
    ∙ sym (product_word f (product g h) r)

pub mix_order : (g h : List ℕ) (w : ℕ) → mix h (mix g w) ≡ mix g (mix h w)
mix_order g h w = mix_mix g h w ∙ ap (λ (r : List ℕ). mix r w) (product_comm g h) ∙ sym (mix_mix h g w)

-- ---- constant rows

pub mix_constant : (c w : ℕ) → mix (constant_row c) w ≡ scale c w
unfolding constant_row single tabulate pick
mix_constant c w = mix_single c w

product_constant : (c w : ℕ) → product (bytes_of w) (constant_row c) ≡ bytes_of (scale c w)
product_constant c w = sym (mix_product (constant_row c) w) ∙ ap bytes_of (mix_constant c w)

bytes_scale : (c w : ℕ) → bytes_of (scale c w) ≡ tabulate 8 (λ i. mul (byte w i) c)
bytes_scale c w = tabulate_cong 8 (byte (scale c w)) (λ i. mul (byte w i) c) (byte_scale c w)

-- the constant row has the word c times 1
constant_bytes : (c : ℕ) → c < 2 ^ 8 → bytes_of (scale c 1) ≡ constant_row c
unfolding tabulate byte constant_row
constant_bytes c h = bytes_scale c 1 ∙ ap₂ (λ (x z : ℕ). x ∷ replicate 7 z) (one-mul c h) (zero-mul c)

pub constant_constant : (c d : ℕ) → c < 2 ^ 8 → product (constant_row c) (constant_row d) ≡ constant_row (mul c d)
constant_constant c d h =
    ap (λ (r : List ℕ). product r (constant_row d)) (sym (constant_bytes c h)) ∙ product_constant d (scale c 1) ∙ bytes_scale d (scale c 1)
    ∙ tabulate_cong 8 (λ i. mul (byte (scale c 1) i) d) (λ i. mul (byte 1 i) (mul c d))
    (λ i l. ap (λ (x : ℕ). mul x d) (byte_scale c 1 i l) ∙ mul_assoc (byte 1 i) c d)
    ∙ sym (bytes_scale (mul c d) 1) ∙ constant_bytes (mul c d) (mul_lt c d)

-- ---- the neutral row

scale_one : (w : ℕ) → w < 2 ^ 64 → scale 1 w ≡ w
scale_one w h = word_ext (scale 1 w) w (scale_lt 1 w) h (λ i l. byte_scale 1 w i l ∙ mul-one (byte w i) (byte_lt w i))

pub mix_neutral : (w : ℕ) → w < 2 ^ 64 → mix neutral w ≡ w
unfolding neutral
mix_neutral w h = mix_constant 1 w ∙ scale_one w h

pub product_neutral : (g : List ℕ) → Row g → product g neutral ≡ g
product_neutral g r = product_word g neutral r ∙ ap bytes_of (mix_neutral (word_of g) (join_lt 8 (λ i. get_or g i 0) r.1)) ∙ bytes_word g r

neutral_bytes : neutral ≡ bytes_of 1
unfolding neutral constant_row tabulate byte
neutral_bytes = refl

-- ---- powers

-- as often mixed, from the neutral row's word
pub power_bytes : (g : List ℕ) (n : ℕ) → row_power g n ≡ bytes_of (iterate n (mix g) 1)
unfolding row_power iterate
power_bytes g zero = neutral_bytes
power_bytes g (suc n) = ap (λ (r : List ℕ). product r g) (power_bytes g n) ∙ sym (mix_product g (iterate n (mix g) 1))

-- the eighth power is the constant row of the eighth power of the XOR of the coefficients
pub eighth_power : (g : List ℕ) → row_power g 8 ≡ constant_row (power (row_sum g) 8)
eighth_power g = power_bytes g 8 ∙ ap bytes_of (mix_eightfold g 1) ∙ constant_bytes (power (row_sum g) 8) (power_lt (row_sum g) 8)

-- ---- the XOR of a product's coefficients is the product of the factors'

pub sum_product : (g h : List ℕ) → row_sum (product g h) ≡ mul (row_sum g) (row_sum h)
unfolding row_sum conv
sum_product g h =
    xor_sum_cong 8 (λ i. get_or (product g h) i 0) (λ i. xor_sum 8 (each i)) (get_or_product g h)
    ∙ xor_sum_swap 8 8 each
    ∙ xor_sum_cong 8 (λ j. xor_sum 8 (λ i. each i j)) (λ j. mul (g' j) (xor_sum 8 h'))
    (λ j l. sym (additive_xor_sum (mul (g' j)) (mul_xor_r (g' j)) 8 (λ i. h' ((i + 8 - j) % 8))) ∙ ap (mul (g' j)) (round j l))
    ∙ sym (additive_xor_sum (λ x. mul x (xor_sum 8 h')) (λ x y. mul_xor_l x y (xor_sum 8 h')) 8 g')
  where
    g' : ℕ → ℕ
    g' k = get_or g k 0

    h' : ℕ → ℕ
    h' k = get_or h k 0

    each : ℕ → ℕ → ℕ
    each i j = mul (g' j) (h' ((i + 8 - j) % 8))

    round : (j : ℕ) → j < 8 → xor_sum 8 (λ i. h' ((i + 8 - j) % 8)) ≡ xor_sum 8 h'
    round j l =
        xor_sum_cong 8 (λ i. h' ((i + 8 - j) % 8)) (λ i. h' ((8 - j + i) % 8)) (λ i m. ap h' (omega arith))
        ∙ xor_sum_cycle 7 (λ t. h' (t % 8)) (λ t. ap h' (omega arith)) (8 - j)
        ∙ xor_sum_cong 8 (λ t. h' (t % 8)) h' (λ t m. ap h' (omega arith))

pub sum_lt : (g : List ℕ) → Row g → row_sum g < 2 ^ 8
unfolding row_sum
sum_lt g r = xor_sum_lt 8 8 (λ i. get_or g i 0) (λ i l. r.1 i)
