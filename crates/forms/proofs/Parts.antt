-- Laws of a buffer that is filled part by part: a part of it is lent, from one place to another, and comes back written.
-- Assumes nothing.
use mathlib.Core.Path.{◌≡◌, refl, sym, ap, ap₂, ◌∙◌}
use mathlib.Core.List.{List, [], ◌++◌, append_assoc, append-nil}
use Prim.Native.Nat.{ℕ, zero, suc, ◌+◌, ◌-◌, ◌*◌, ◌≤◌, ◌<◌}
use native.Mathlib.Nat.{zero-mul, suc-mul}
use native.Mathlib.Omega.{arith}
use lib.ListN.{length, take, drop, length-append, length-drop, drop_of_length-le}
use lib.Seq.{take_all, take_at, drop_at, drop-drop, length-take-le}
use Rattle.forms.specs.Lists.{over}

pub part_length : (xs : List ℕ) (at end : ℕ) → at ≤ end → end ≤ length xs → length (take (end - at) (drop at xs)) ≡ end - at
part_length xs at end h k = length-take-le (end - at) (drop at xs) (omega (arith, length-drop at xs))

-- m blocks of z bytes are left from at on: one where the list goes on, none at its end
pub block_left : (m z s at : ℕ) → s ≡ at + m * z → at < s → at + z ≤ s
block_left zero z s at e h = let x : ⊥ = omega (arith, zero-mul z) in absurd x
block_left (suc m) z s at e h = omega (arith, suc-mul m z)

pub none_left : (m z s at : ℕ) → 0 < z → s ≡ at + m * z → s ≤ at → m ≡ 0
none_left zero z s at p e h = refl
none_left (suc m) z s at p e h = let x : ⊥ = omega (arith, suc-mul m z) in absurd x

-- what a front part that was filled reads as
pub take_filled : (k : ℕ) (s rest : List ℕ) {l : List ℕ} → length s ≡ k → l ≡ s → take k (l ++ rest) ≡ s
take_filled k s rest {l} p e = take_at l rest k (ap length e ∙ p) ∙ e

-- the part of d from at to end comes back as ys
module _ (d ys : List ℕ) (at end : ℕ) (h : at ≤ end) (k : end ≤ length d) (e : length ys ≡ end - at) where
  front_length : length (take at d ++ ys) ≡ end
  front_length = length-append (take at d) ys ∙ omega (arith, length-take-le at d (omega arith))

  pub part_kept : length (take at d ++ (ys ++ drop (end - at) (drop at d))) ≡ length d
  part_kept =
      ap length (sym (append_assoc (take at d) ys (drop (end - at) (drop at d))))
      ∙ length-append (take at d ++ ys) (drop (end - at) (drop at d))
      ∙ omega (arith, front_length, length-drop (end - at) (drop at d), length-drop at d)

  pub part_turn : (rest : List ℕ) → take end (take at d ++ (ys ++ drop (end - at) (drop at d))) ++ rest ≡ take at d ++ (ys ++ rest)
  part_turn rest =
      ap (λ (x : List ℕ). take end x ++ rest) (sym (append_assoc (take at d) ys (drop (end - at) (drop at d))))
      ∙ ap (λ (x : List ℕ). x ++ rest) (take_at (take at d ++ ys) (drop (end - at) (drop at d)) end front_length)
      ∙ append_assoc (take at d) ys rest

  -- behind the part d still stands
  pub part_behind : drop end (take at d ++ (ys ++ drop (end - at) (drop at d))) ≡ drop end d
  part_behind =
      let on : at + (end - at) ≡ end = omega arith in
      ap (drop end) (sym (append_assoc (take at d) ys (drop (end - at) (drop at d))))
      ∙ drop_at (take at d ++ ys) (drop (end - at) (drop at d)) end front_length
      ∙ drop-drop (end - at) at d
      ∙ ap (λ (k : ℕ). drop k d) on

-- all of d is filled
pub all_filled : (d : List ℕ) (i : ℕ) {rest whole : List ℕ} → length d ≤ i → rest ≡ [] → take i d ++ rest ≡ whole → d ≡ whole
all_filled d i h e w = sym (append-nil d) ∙ ap₂ ◌++◌ (sym (take_all i d h)) (sym e) ∙ w

-- a part that goes to the end is lent, and comes back as ys
pub part_to_end : (d ys : List ℕ) (at : ℕ) → take at d ++ (ys ++ drop (length d - at) (drop at d)) ≡ take at d ++ ys
part_to_end d ys at =
    ap (λ (x : List ℕ). take at d ++ (ys ++ x)) (drop_of_length-le (drop at d) {i = length d - at} (omega (arith, length-drop at d)))
    ∙ ap (λ (x : List ℕ). take at d ++ x) (append-nil ys)

-- bytes written over the front, and more behind them
pub over_more : (done more before : List ℕ) (put : ℕ) → put ≡ length done
    → take put (over done before) ++ over more (drop put (over done before)) ≡ over (done ++ more) before
over_more done more before put e =
    ap₂ (λ (x y : List ℕ). x ++ over more y) (take_at done (drop (length done) before) put (sym e)) (drop_at done (drop (length done) before) put (sym e))
    ∙ sym (append_assoc done more (drop (length more) (drop (length done) before)))
    ∙ ap (λ (x : List ℕ). (done ++ more) ++ x) (drop-drop (length more) (length done) before ∙ ap (λ (k : ℕ). drop k before) (sym (length-append done more)))

pub over_length : (written before : List ℕ) → length written ≤ length before → length (over written before) ≡ length before
over_length written before h = length-append written (drop (length written) before) ∙ omega (arith, length-drop (length written) before)
