-- Rows, matrices and words: what a matrix gives, and what it still gives once one row is to give 0.
-- Assumes nothing.
use mathlib.Core.Path.{◌≡◌, refl, sym, ap, ap₂, ◌∙◌}
use mathlib.Core.List.{List, []}
use Prim.Native.Nat.{ℕ, ◌-◌, ◌*◌, ◌%◌, ◌^◌, ◌≤◌, ◌<◌}
use native.Mathlib.Omega.{arith}
use borrow.Author.Tests.{eq-eqb, ne_eqb, lt-ltb, le-ltb}
use lib.Dec.{eqb}
use lib.ListN.{get_or, replicate, get_or-replicate}
use lib.Bits.{bit_xor, xor_self, xor_zero_l, xor_zero_r}
use Rattle.forms.specs.Lists.{xor_sum, pick}
use Rattle.forms.specs.Words.{byte, join}
use Rattle.forms.proofs.Sums.{pick_lt, xor_sum_cong, additive_xor_sum, xor_sum_zero, xor_sum_xor, xor_sum_only}
use Rattle.forms.proofs.Xor.{additive_zero}
use Rattle.forms.proofs.Tests.{all, tested_at, tested_agree}
use Rattle.forms.proofs.Lists.{get_d_tabulate, tabulate_cong}
use Rattle.forms.proofs.Words.{byte_xor, byte_zero, byte_join, join_cong}
use Rattle.field.specs.Field.{mul}
use Rattle.field.specs.Mixing.{dot, mix_by, scale}
use Rattle.field.proofs.Field.{mul_xor_l, mul_xor_r, mul_comm, mul_assoc, mul-one, one-mul, zero-mul, mul_zero}
use Rattle.field.proofs.Scale.{byte_scale}
use Rattle.field.proofs.Mixing.{dot_lt, byte_mix_by, dot_xor, mix_by_xor}
use Rattle.rows.specs.Inverse.{Row, reciprocal}
use Rattle.rows.proofs.Ring.{bytes_of, word_of, byte_word}
use Rattle.rows.proofs.Inverses.{reciprocal_one}
use Rattle.judge.specs.Elimination.{combined, cleared, Restricted, sixteen, Left}

-- ---- a row as a word

pub sum_of_words : (x : List ℕ) (c : ℕ) (y : List ℕ) {v w u : ℕ} → Row x → Row y → v ≡ word_of x → w ≡ word_of y → u ≡ scale c w
    → bytes_of (bit_xor v u) ≡ combined x c y
unfolding combined
sum_of_words x c y {v} {w} {u} rx ry ev ew eu =
    tabulate_cong 8 (byte (bit_xor v u)) (λ j. bit_xor (get_or x j 0) (mul (get_or y j 0) c))
    (λ j l. byte_xor j v u ∙ ap₂ bit_xor (byte_word x rx ev j l) (ap (λ (t : ℕ). byte t j) eu ∙ byte_scale c w j l ∙ ap (λ (b : ℕ). mul b c) (byte_word y ry ew j l)))

-- ---- a row times a word

pub dot_combined : (x : List ℕ) (c : ℕ) (y : List ℕ) (w : ℕ) → dot (combined x c y) w ≡ bit_xor (dot x w) (mul (dot y w) c)
unfolding dot combined
dot_combined x c y w =
    xor_sum_cong 8 (λ j. mul (byte w j) (get_or (combined x c y) j 0)) (λ j. bit_xor (mul (byte w j) (get_or x j 0)) (mul (mul (byte w j) (get_or y j 0)) c))
    (λ j l. ap (mul (byte w j)) (get_d_tabulate 8 (λ j. bit_xor (get_or x j 0) (mul (get_or y j 0) c)) 0 j l)
    ∙ mul_xor_r (byte w j) (get_or x j 0) (mul (get_or y j 0) c) ∙ ap (bit_xor (mul (byte w j) (get_or x j 0))) (sym (mul_assoc (byte w j) (get_or y j 0) c)))
    ∙ xor_sum_xor 8 (λ j. mul (byte w j) (get_or x j 0)) (λ j. mul (mul (byte w j) (get_or y j 0)) c)
    ∙ ap (bit_xor (dot x w)) (sym (additive_xor_sum (λ a. mul a c) (λ a b. mul_xor_l a b c) 8 (λ j. mul (byte w j) (get_or y j 0))))

-- a row of zeros
pub dot_zeros : (x : List ℕ) → ((j : ℕ) → j < 8 → get_or x j 0 ≡ 0) → (w : ℕ) → dot x w ≡ 0
unfolding dot
dot_zeros x h w =
    xor_sum_cong 8 (λ j. mul (byte w j) (get_or x j 0)) (λ j. 0) (λ j l. ap (mul (byte w j)) (h j l) ∙ mul_zero (byte w j)) ∙ xor_sum_zero 8

pub dot_zero_row : (w : ℕ) → dot (replicate 8 0) w ≡ 0
dot_zero_row w = dot_zeros (replicate 8 0) (λ j l. get_or-replicate 8 j 0 0 l) w

-- a word whose byte p is s and whose others are zero
abbrev Single : ℕ → ℕ → ℕ → Type 0
Single p s t = (j : ℕ) → j < 8 → byte t j ≡ pick (eqb j p) s

dot_single : (x : List ℕ) (p s t : ℕ) → p < 8 → Single p s t → dot x t ≡ mul s (get_or x p 0)
unfolding dot pick
dot_single x p s t l h =
    xor_sum_only 8 (λ j. mul (byte t j) (get_or x j 0)) p l
    (λ j m n. ap (λ (b : ℕ). mul b (get_or x j 0)) (h j m ∙ rw (ne_eqb j p n)) ∙ zero-mul (get_or x j 0))
    ∙ ap (λ (b : ℕ). mul b (get_or x p 0)) (h p l ∙ rw (eq-eqb p p refl))

abbrev placed : ℕ → ℕ → ℕ
placed p s = join 8 (λ j. pick (eqb j p) s)

placed_single : (p s : ℕ) → s < 2 ^ 8 → Single p s (placed p s)
placed_single p s l j m = byte_join 8 (λ j. pick (eqb j p) s) (λ k. pick_lt (eqb k p) s l) j m

-- a one in byte p, as code has it
one_single : (p : ℕ) → p < 8 → Single p 1 (1 * 2 ^ (8 * p) % 2 ^ 64)
unfolding byte pick
one_single p l j m =
    tested_agree 8 (byte (1 * 2 ^ (8 * p) % 2 ^ 64)) (λ j. pick (eqb j p) 1)
    (tested_at 8 (λ p. all 8 (λ j. eqb (byte (1 * 2 ^ (8 * p) % 2 ^ 64) j) (pick (eqb j p) 1))) tt p l) j m

-- ---- a matrix times a word

mix_by_cong : (a b : List (List ℕ)) (w v : ℕ) → ((i : ℕ) → i < 8 → dot (get_or a i []) w ≡ dot (get_or b i []) v) → mix_by a w ≡ mix_by b v
unfolding mix_by
mix_by_cong a b w v h = join_cong 8 (λ i. dot (get_or a i []) w) (λ i. dot (get_or b i []) v) h

mix_by_none : (a : List (List ℕ)) (w : ℕ) → ((i : ℕ) → i < 8 → dot (get_or a i []) w ≡ 0) → mix_by a w ≡ 0
unfolding mix_by join
mix_by_none a w h = join_cong 8 (λ i. dot (get_or a i []) w) (λ i. 0) h

pub mix_by_zero : (a : List (List ℕ)) → mix_by a 0 ≡ 0
mix_by_zero a = additive_zero (mix_by a) (mix_by_xor a)

-- ---- one row is to give 0

pub restricted_none : (a : List (List ℕ)) (y : List ℕ) → ((j : ℕ) → j < 8 → get_or y j 0 ≡ 0) → Restricted a y a
restricted_none a y h = record { same = λ w e. refl; within = λ w. (w, refl, dot_zeros y h w) }

module _ (a : List (List ℕ)) (y : List ℕ) (p : ℕ) (l : p < 8) (some : get_or y p 0 ≡ 0 → ⊥) (small : get_or y p 0 < 2 ^ 8) where
  abbrev c : ℕ
  c = reciprocal (get_or y p 0)

  -- y with 1 at p
  abbrev u : List ℕ
  u = combined (replicate 8 0) c y

  dot_u : (w : ℕ) → dot u w ≡ mul (dot y w) c
  dot_u w =
      dot_combined (replicate 8 0) c y w ∙ ap (λ (x : ℕ). bit_xor x (mul (dot y w) c)) (dot_zero_row w)
      ∙ xor_zero_l (mul (dot y w) c)

  dot_cleared : (i w : ℕ) → i < 8 → dot (get_or (cleared a p u) i []) w ≡ bit_xor (dot (get_or a i []) w) (mul (dot u w) (get_or (get_or a i []) p 0))
  unfolding cleared
  dot_cleared i w m =
      ap (λ (x : List ℕ). dot x w) (get_d_tabulate 8 (λ i. combined (get_or a i []) (get_or (get_or a i []) p 0) u) [] i m)
      ∙ dot_combined (get_or a i []) (get_or (get_or a i []) p 0) u w

  -- the unknown p, worked out of y
  abbrev solved : ℕ → ℕ
  solved w = bit_xor w (placed p (dot u w))

  dot_solved : (x : List ℕ) (w : ℕ) → dot x (solved w) ≡ bit_xor (dot x w) (mul (dot u w) (get_or x p 0))
  dot_solved x w =
      dot_xor x w (placed p (dot u w))
      ∙ ap (bit_xor (dot x w)) (dot_single x p (dot u w) (placed p (dot u w)) l (placed_single p (dot u w) (dot_lt u w)))

  zero_there : (w : ℕ) → dot y (solved w) ≡ 0
  zero_there w =
      let one : mul c (get_or y p 0) ≡ 1 = mul_comm c (get_or y p 0) ∙ reciprocal_one (get_or y p 0) (omega arith) small in
      let back : mul (dot u w) (get_or y p 0) ≡ dot y w =
      ap (λ (x : ℕ). mul x (get_or y p 0)) (dot_u w) ∙ mul_assoc (dot y w) c (get_or y p 0) ∙ ap (mul (dot y w)) one ∙ mul-one (dot y w) (dot_lt y w) in
      dot_solved y w ∙ ap (bit_xor (dot y w)) back ∙ xor_self (dot y w)

  pub restricted_some : Restricted a y (cleared a p u)
  restricted_some = record {
    same = λ w e. mix_by_cong (cleared a p u) a w w (λ i m. dot_cleared i w m
        ∙ ap (λ (x : ℕ). bit_xor (dot (get_or a i []) w) (mul x (get_or (get_or a i []) p 0))) (dot_u w ∙ ap (λ (x : ℕ). mul x c) e ∙ zero-mul c)
        ∙ ap (bit_xor (dot (get_or a i []) w)) (zero-mul (get_or (get_or a i []) p 0)) ∙ xor_zero_r (dot (get_or a i []) w));
    within = λ w. (solved w, mix_by_cong (cleared a p u) a w (solved w) (λ i m. dot_cleared i w m ∙ sym (dot_solved (get_or a i []) w)), zero_there w);
  }

-- ---- a byte of the sixteen as a row

pub times_matrix : (x : List ℕ) (a : List (List ℕ)) (w : ℕ) → xor_sum 8 (λ i. mul (dot (get_or a i []) w) (get_or x i 0)) ≡ dot x (mix_by a w)
unfolding dot
times_matrix x a w =
    xor_sum_cong 8 (λ i. mul (dot (get_or a i []) w) (get_or x i 0)) (λ i. mul (byte (mix_by a w) i) (get_or x i 0))
    (λ i l. ap (λ (b : ℕ). mul b (get_or x i 0)) (sym (byte_mix_by a w i l)))

pub sixteen_low : (m : List (List ℕ)) (w z : ℕ) → z < 8 → byte w z ≡ sixteen m w z
unfolding sixteen
sixteen_low m w z l = rw (lt-ltb z 8 l)

pub sixteen_high : (m : List (List ℕ)) (w z : ℕ) → 8 ≤ z → byte (mix_by m w) (z - 8) ≡ sixteen m w z
unfolding sixteen
sixteen_high m w z l = rw (le-ltb z 8 l)

-- ---- the words that are left

pub left_none : (a : List (List ℕ)) → ((i : ℕ) → i < 8 → (j : ℕ) → j < 8 → get_or (get_or a i []) j 0 ≡ 0) → Left a 0
left_none a h = record { given = (0, sym (mix_by_zero a)); none = λ e w. mix_by_none a w (λ i l. dot_zeros (get_or a i []) (h i l) w) }

pub left_some : (a : List (List ℕ)) (i p : ℕ) {r : ℕ} → i < 8 → p < 8 → (get_or (get_or a i []) p 0 ≡ 0 → ⊥) → get_or (get_or a i []) p 0 < 2 ^ 8
    → r ≡ mix_by a (1 * 2 ^ (8 * p) % 2 ^ 64) → Left a r
left_some a i p {r} hi hp some small e = record { given = (t, e); none = λ z. absurd (some (sym byte_there ∙ ap (λ (w : ℕ). byte w i) (sym e ∙ z) ∙ byte_zero i)) }
  where
    t : ℕ
    t = 1 * 2 ^ (8 * p) % 2 ^ 64

    byte_there : byte (mix_by a t) i ≡ get_or (get_or a i []) p 0
    byte_there = byte_mix_by a t i hi ∙ dot_single (get_or a i []) p 1 t hp (one_single p hp) ∙ one-mul (get_or (get_or a i []) p 0) small
