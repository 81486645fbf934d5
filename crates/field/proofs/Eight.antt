-- Mixing eight times by a row multiplies every byte by the eighth power of the XOR of the row's coefficients.
-- A row's square keeps only the squares, each at twice its place; after three squarings all stand at place 0.
-- Assumes nothing.
use mathlib.Core.Path.{◌≡◌, refl, sym, ap, ap₂, ◌∙◌, fun_ext}
use mathlib.Core.Bool.{Bool, true, false}
use mathlib.Core.List.{List}
use mathlib.Core.Logic.{◌≢◌}
use Prim.Native.Nat.{ℕ, ◌+◌, ◌-◌, ◌*◌, ◌%◌, ◌<◌}
use native.Mathlib.Nat.{add_comm, mod-lt}
use native.Mathlib.Nat as nat
use native.Mathlib.Omega.{arith}
use borrow.Author.Tests.{eq-eqb, ne_eqb}
use lib.Dec.{eqb}
use lib.ListN.{get_or}
use Rattle.forms.specs.Lists.{tabulate, xor_sum, pick, iterate}
use Rattle.forms.specs.Words.{byte}
use Rattle.forms.proofs.Sums.{pick_xor, pick_zero, xor_sum_cong, additive_xor_sum, xor_sum_swap, xor_sum_only, xor_sum_square}
use Rattle.forms.proofs.Xor.{Additive}
use Rattle.forms.proofs.Lists.{get_d_tabulate, tabulate_cong}
use Rattle.forms.proofs.Words.{word_ext}
use Rattle.field.specs.Field.{mul, power, shift, times_x}
use Rattle.field.specs.Mixing.{mix, product, row_sum, scale}
use Rattle.field.specs.Published.{row}
use Rattle.field.proofs.Field.{mul_assoc, mul_comm, mul_lt, one-mul, zero-mul, mul_zero}
use Rattle.field.proofs.Power.{square, square_xor}
use Rattle.field.proofs.Scale.{scale_lt, byte_scale}
use Rattle.field.proofs.Mixing.{conv, byte_mix, mix_lt, mix_mix, mix_cong}

square_pick : (b : Bool) (x : ℕ) → square (pick b x) ≡ pick b (square x)
unfolding pick
square_pick true x = refl
square_pick false x = zero-mul 0

-- the row with h j at place p j mod 8
placed : ℕ → (ℕ → ℕ) → List ℕ
placed p h = tabulate 8 (λ i. xor_sum 8 (λ j. pick (eqb (p * j % 8) i) (h j)))

get_or_placed : (p : ℕ) (h : ℕ → ℕ) (i : ℕ) → i < 8 → get_or (placed p h) i 0 ≡ xor_sum 8 (λ j. pick (eqb (p * j % 8) i) (h j))
unfolding placed
get_or_placed p h i l = get_d_tabulate 8 (λ i. xor_sum 8 (λ j. pick (eqb (p * j % 8) i) (h j))) 0 i l

-- of a row's square only the diagonal is left
diagonal : (g : List ℕ) → product g g ≡ placed 2 (λ j. square (get_or g j 0))
unfolding product placed
diagonal g =
    tabulate_cong 8 (λ i. xor_sum 8 (λ j. xor_sum 8 (λ k. term i j k))) (λ i. xor_sum 8 (λ j. pick (eqb (2 * j % 8) i) (square (get_or g j 0))))
    (λ i l. xor_sum_square 8 (term i) (λ j k. ap₂ (λ (m x : ℕ). pick (eqb (m % 8) i) x) (add_comm j k) (mul_comm (get_or g j 0) (get_or g k 0)))
    ∙ xor_sum_cong 8 (λ j. term i j j) (λ j. pick (eqb (2 * j % 8) i) (square (get_or g j 0)))
    (λ j m. let e : j + j ≡ 2 * j = omega arith in ap (λ (x : ℕ). pick (eqb (x % 8) i) (square (get_or g j 0))) e))
  where
    term : ℕ → ℕ → ℕ → ℕ
    term i j k = pick (eqb ((j + k) % 8) i) (mul (get_or g j 0) (get_or g k 0))

twice : (x : ℕ) → 2 * (x % 8) % 8 ≡ 2 * x % 8
twice x = omega arith

-- the square of a row that is placed by p is placed by 2 p
square_placed : (p : ℕ) (h : ℕ → ℕ) → product (placed p h) (placed p h) ≡ placed (2 * p) (λ j. square (h j))
unfolding placed pick
square_placed p h =
    diagonal (placed p h)
    ∙ tabulate_cong 8 (λ i. xor_sum 8 (λ m. pick (eqb (2 * m % 8) i) (square (get_or (placed p h) m 0)))) (λ i. xor_sum 8 (λ j. pick (eqb (2 * p * j % 8) i) (square (h j))))
    (λ i l. xor_sum_cong 8 (λ m. pick (eqb (2 * m % 8) i) (square (get_or (placed p h) m 0))) (λ m. xor_sum 8 (λ j. both i m j))
    (λ m n. ap (λ (x : ℕ). pick (eqb (2 * m % 8) i) (square x)) (get_or_placed p h m n)
    ∙ ap (pick (eqb (2 * m % 8) i)) (additive_xor_sum square square_xor 8 (λ j. pick (eqb (p * j % 8) m) (h j))
    ∙ xor_sum_cong 8 (λ j. square (pick (eqb (p * j % 8) m) (h j))) (λ j. pick (eqb (p * j % 8) m) (square (h j))) (λ j o. square_pick (eqb (p * j % 8) m) (h j)))
    ∙ additive_xor_sum (pick (eqb (2 * m % 8) i)) (pick_xor (eqb (2 * m % 8) i)) 8 (λ j. pick (eqb (p * j % 8) m) (square (h j))))
    ∙ xor_sum_swap 8 8 (both i)
    ∙ xor_sum_cong 8 (λ j. xor_sum 8 (λ m. both i m j)) (λ j. pick (eqb (2 * p * j % 8) i) (square (h j)))
    (λ j o. xor_sum_only 8 (λ m. both i m j) (p * j % 8) (mod-lt (p * j) (omega arith)) (λ m n q. other i m j q) ∙ same i j))
  where
    both : ℕ → ℕ → ℕ → ℕ
    both i m j = pick (eqb (2 * m % 8) i) (pick (eqb (p * j % 8) m) (square (h j)))

    other : (i m j : ℕ) → m ≢ p * j % 8 → both i m j ≡ 0
    other i m j q = ap (λ (b : Bool). pick (eqb (2 * m % 8) i) (pick b (square (h j)))) (ne_eqb (p * j % 8) m (λ (e : p * j % 8 ≡ m). q (sym e))) ∙ pick_zero (eqb (2 * m % 8) i)

    doubled : (j : ℕ) → 2 * (p * j % 8) % 8 ≡ 2 * p * j % 8
    doubled j = twice (p * j) ∙ ap (λ (x : ℕ). x % 8) (sym (nat.mul_assoc 2 p j))

    same : (i j : ℕ) → both i (p * j % 8) j ≡ pick (eqb (2 * p * j % 8) i) (square (h j))
    same i j =
        ap (λ (b : Bool). pick (eqb (2 * (p * j % 8) % 8) i) (pick b (square (h j)))) (eq-eqb (p * j % 8) (p * j % 8) refl)
        ∙ ap (λ (x : ℕ). pick (eqb x i) (square (h j))) (doubled j)

-- ---- three squarings

abbrev eighth : ℕ → ℕ
eighth a = square (square (square a))

-- a row of one byte at place 0
unfoldable pub single : ℕ → List ℕ
single c = tabulate 8 (λ i. pick (eqb 0 i) c)

placed_one : (g : List ℕ) (k : ℕ) → k < 8 → get_or g k 0 ≡ get_or (placed 1 (λ j. get_or g j 0)) k 0
unfolding pick
placed_one g k l =
    sym (get_or_placed 1 (λ j. get_or g j 0) k l
    ∙ xor_sum_only 8 (λ j. pick (eqb (1 * j % 8) k) (get_or g j 0)) k l
    (λ j m q. ap (λ (b : Bool). pick b (get_or g j 0)) (ne_eqb (1 * j % 8) k (λ (e : 1 * j % 8 ≡ k). q (omega arith))))
    ∙ ap (λ (b : Bool). pick b (get_or g k 0)) (eq-eqb (1 * k % 8) k (omega arith)))

placed_eight : (h : ℕ → ℕ) → placed 8 h ≡ single (xor_sum 8 h)
unfolding placed single
placed_eight h =
    tabulate_cong 8 (λ i. xor_sum 8 (λ j. pick (eqb (8 * j % 8) i) (h j))) (λ i. pick (eqb 0 i) (xor_sum 8 h))
    (λ i l. xor_sum_cong 8 (λ j. pick (eqb (8 * j % 8) i) (h j)) (λ j. pick (eqb 0 i) (h j))
    (λ j m. let e : 8 * j % 8 ≡ 0 = omega arith in ap (λ (x : ℕ). pick (eqb x i) (h j)) e)
    ∙ sym (additive_xor_sum (pick (eqb 0 i)) (pick_xor (eqb 0 i)) 8 h))

pub mix_single : (c w : ℕ) → mix (single c) w ≡ scale c w
unfolding conv single pick
mix_single c w =
    word_ext (mix (single c) w) (scale c w) (mix_lt (single c) w) (scale_lt c w)
    (λ i l. byte_mix (single c) w i l
    ∙ xor_sum_only 8 (λ j. mul (byte w j) (get_or (single c) ((i + 8 - j) % 8) 0)) i l
    (λ j m q. ap (mul (byte w j)) (at ((i + 8 - j) % 8) (omega arith)
    ∙ ap (λ (b : Bool). pick b c) (ne_eqb 0 ((i + 8 - j) % 8) (λ (e : 0 ≡ (i + 8 - j) % 8). q (omega arith)))) ∙ mul_zero (byte w j))
    ∙ ap (mul (byte w i)) (at ((i + 8 - i) % 8) (omega arith) ∙ ap (λ (b : Bool). pick b c) (eq-eqb 0 ((i + 8 - i) % 8) (omega arith)))
    ∙ sym (byte_scale c w i l))
  where
    at : (k : ℕ) → k < 8 → get_or (single c) k 0 ≡ pick (eqb 0 k) c
    at k l = get_d_tabulate 8 (λ i. pick (eqb 0 i) c) 0 k l

abbrev twofold : List ℕ → List ℕ
twofold g = product g g

eighth_xor : Additive eighth
eighth_xor a b = ap (λ (x : ℕ). square (square x)) (square_xor a b) ∙ ap square (square_xor (square a) (square b)) ∙ square_xor (square (square a)) (square (square b))

-- eight mixings are three squarings of the row
mix_eight : (g : List ℕ) (w : ℕ) → iterate 8 (mix g) w ≡ mix (twofold (twofold (twofold g))) w
unfolding iterate
mix_eight g w =
    let two : (g : List ℕ) (x : ℕ) → mix g (mix g x) ≡ mix (twofold g) x = λ g. mix_mix g g in
    let four : (x : ℕ) → mix g (mix g (mix g (mix g x))) ≡ mix (twofold (twofold g)) x =
    λ x. two g (mix g (mix g x)) ∙ ap (mix (twofold g)) (two g x) ∙ two (twofold g) x in
    four (mix g (mix g (mix g (mix g w)))) ∙ ap (mix (twofold (twofold g))) (four w) ∙ two (twofold (twofold g)) w

eighth_placed : (h : ℕ → ℕ) → twofold (twofold (twofold (placed 1 h))) ≡ single (eighth (xor_sum 8 h))
eighth_placed h =
    ap (λ (r : List ℕ). twofold (twofold r)) (square_placed 1 h) ∙ ap twofold (square_placed 2 (λ j. square (h j)))
    ∙ square_placed 4 (λ j. square (square (h j)))
    ∙ placed_eight (λ j. eighth (h j))
    ∙ ap single (sym (additive_xor_sum eighth eighth_xor 8 h))

eighth_power : (x : ℕ) → eighth x ≡ power x 8
unfolding power
eighth_power x = sym (one-mul (eighth x) (mul_lt (square (square x)) (square (square x)))) ∙ simp mul_assoc

pub mix_eightfold : (g : List ℕ) (w : ℕ) → iterate 8 (mix g) w ≡ scale (power (row_sum g) 8) w
unfolding row_sum
mix_eightfold g w =
    ap (λ (m : ℕ → ℕ). iterate 8 m w) (fun_ext (mix_cong g (placed 1 (λ j. get_or g j 0)) (placed_one g)))
    ∙ mix_eight (placed 1 (λ j. get_or g j 0)) w
    ∙ ap (λ (r : List ℕ). mix r w) (eighth_placed (λ j. get_or g j 0))
    ∙ mix_single (eighth (row_sum g)) w
    ∙ ap (λ (c : ℕ). scale c w) (eighth_power (row_sum g))

-- the published row: its coefficients come to 1A, whose eighth power is 46
pub mix_row_eight : (w : ℕ) → iterate 8 (mix row) w ≡ scale 0x46 w
unfolding row_sum row power mul xor_sum shift times_x
mix_row_eight w = mix_eightfold row w
