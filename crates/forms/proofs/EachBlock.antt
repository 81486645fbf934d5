-- A loop over whole blocks that are mapped and XORed with a mask, any number of them at a turn: what it keeps, and a turn of it.
-- Assumes nothing.
use mathlib.Core.Path.{◌≡◌, refl, sym, ap, ap₂, ◌∙◌}
use mathlib.Core.Bool.{Bool, true, false}
use mathlib.Core.List.{List, ◌++◌}
use Prim.Native.Nat.{ℕ, ◌+◌, ◌-◌, ◌%◌, ◌≤◌, ◌<◌}
use native.Mathlib.Nat.{mod_self}
use native.Mathlib.Omega.{arith}
use lib.ListN.{length, take, drop, length-drop, drop_of_length-le}
use lib.Seq.{take_at, drop_at, drop-drop}
use Rattle.forms.specs.Lists.{when}
use Rattle.forms.specs.Strings.{xor_bytes}
use Rattle.forms.specs.Mapped.{each_block}
use Rattle.forms.proofs.Strings.{nil_xor_bytes, xor_bytes_parts, block_within, whole_rest, each_block_nil, each_block_one, each_block_parts, length_each_block}
use Rattle.forms.proofs.Parts.{part_length, part_kept, part_turn, part_behind, all_filled}

-- ---- what is read: the source or, with own, what stood in the destination

pub read_length : (own : Bool) (before src : List ℕ) → length before ≡ length src → length (when own before src) ≡ length src
read_length false before src e = refl
read_length true before src e = e

-- a part of it, where that still stands in the destination
pub read_part : (own : Bool) (before src dst : List ℕ) (at k : ℕ) → drop at dst ≡ drop at before
    → when own (take k (drop at dst)) (take k (drop at src)) ≡ take k (drop at (when own before src))
read_part false before src dst at k e = refl
read_part true before src dst at k e = ap (take k) e

-- ---- the loop

-- at a place of the string xs, whole blocks after it: those before it are written to dst, and behind it dst is as it was before
pub record Kept (m : List ℕ → List ℕ) (z : ℕ) (xs mask before dst : List ℕ) (at : ℕ) : Type 0 where
  pub same : length dst ≡ length xs
  pub within : at ≤ length xs
  pub left : (length xs - at) % z ≡ 0
  pub stands : drop at dst ≡ drop at before
  pub made : take at dst ++ xor_bytes (each_block m z (drop at xs)) (drop at mask) ≡ xor_bytes (each_block m z xs) mask

module _ (m : List ℕ → List ℕ) (z : ℕ) (xs mask before : List ℕ) where
  pub kept_first : length xs % z ≡ 0 → length before ≡ length xs → Kept m z xs mask before before 0
  kept_first w e =
      let none : length xs - 0 ≡ length xs = omega arith in
      record { same = e; within = omega arith; left = ap (λ (x : ℕ). x % z) none ∙ w; stands = refl; made = refl }

  -- a block is left where the string goes on
  pub kept_block : {dst : List ℕ} {at : ℕ} → Kept m z xs mask before dst at → at < length dst → at + z ≤ length xs
  kept_block {dst} {at} k h = omega (arith, k.same, k.within, block_within z (length xs - at) k.left (omega (arith, k.same)))

  pub kept_last : {dst : List ℕ} {at : ℕ} → Kept m z xs mask before dst at → length dst ≤ at → dst ≡ xor_bytes (each_block m z xs) mask
  kept_last {dst} {at} k h =
      all_filled dst at h
      (ap (λ (x : List ℕ). xor_bytes (each_block m z x) (drop at mask)) (drop_of_length-le xs {i = at} (omega (arith, k.same)))
      ∙ ap (λ (x : List ℕ). xor_bytes x (drop at mask)) (each_block_nil m z)
      ∙ nil_xor_bytes (drop at mask))
      k.made

  module _ (gives : (b : List ℕ) → length (m b) ≡ z) (pos : 0 < z) where
    -- a turn writes what a part of whole blocks makes
    pub kept_next : {dst : List ℕ} {at : ℕ} (e : ℕ) {ys : List ℕ} → Kept m z xs mask before dst at → at ≤ e → e ≤ length xs → (e - at) % z ≡ 0
        → length ys ≡ length (take (e - at) (drop at dst)) → ys ≡ xor_bytes (each_block m z (take (e - at) (drop at xs))) (take (e - at) (drop at mask))
        → Kept m z xs mask before (take at dst ++ (ys ++ drop (e - at) (drop at dst))) e
    kept_next {dst} {at} e {ys} k h f w l y =
        let in_dst : e ≤ length dst = omega (arith, k.same) in
        let ly : length ys ≡ e - at = l ∙ part_length dst at e h in_dst in
        record {
          same = part_kept dst ys at e h in_dst ly ∙ k.same;
          within = f;
          left = let o : length xs - at - (e - at) ≡ length xs - e = omega arith in sym (ap (λ (x : ℕ). x % z) o) ∙ whole_rest z (e - at) (length xs - at) (omega arith) w k.left;
          stands = part_behind dst ys at e h in_dst ly ∙ sym (on dst) ∙ ap (drop (e - at)) k.stands ∙ on before;
          made =
              part_turn dst ys at e h in_dst ly (xor_bytes (each_block m z (drop e xs)) (drop e mask))
              ∙ ap (λ (x : List ℕ). take at dst ++ x) (sym parts)
              ∙ k.made;
        }
      where
        on : (l : List ℕ) → drop (e - at) (drop at l) ≡ drop e l
        on l = let o : at + (e - at) ≡ e = omega arith in drop-drop (e - at) at l ∙ ap (λ (i : ℕ). drop i l) o

        parts : xor_bytes (each_block m z (drop at xs)) (drop at mask) ≡ ys ++ xor_bytes (each_block m z (drop e xs)) (drop e mask)
        parts =
            let a : List ℕ = take (e - at) (drop at xs) in
            let b : List ℕ = drop (e - at) (drop at xs) in
            let la : length a ≡ e - at = part_length xs at e h f in
            let wa : length (each_block m z a) ≡ e - at = length_each_block m z gives a (ap (λ (x : ℕ). x % z) la ∙ w) ∙ la in
            ap (λ (x : List ℕ). xor_bytes x (drop at mask)) (each_block_parts m z pos (e - at) (drop at xs) w (omega (arith, length-drop at xs)))
            ∙ xor_bytes_parts (e - at) (each_block m z a ++ each_block m z b) (drop at mask)
            ∙ ap₂ (λ (x y : List ℕ). xor_bytes x (take (e - at) (drop at mask)) ++ xor_bytes y (drop (e - at) (drop at mask)))
            (take_at (each_block m z a) (each_block m z b) (e - at) wa) (drop_at (each_block m z a) (each_block m z b) (e - at) wa)
            ∙ ap₂ (λ (x y : List ℕ). x ++ y) (sym y) (ap₂ (λ (x y : List ℕ). xor_bytes (each_block m z x) y) (on xs) (on mask))

-- ---- a block at a turn, of what is read

module _ (m : List ℕ → List ℕ) (z : ℕ) (gives : (b : List ℕ) → length (m b) ≡ z) (pos : 0 < z) (own : Bool) (src mask before : List ℕ) where
  pub kept_block_next : {dst : List ℕ} {at : ℕ} (e : ℕ) {ys : List ℕ} → e ≡ at + z → Kept m z (when own before src) mask before dst at → at < length dst
      → length ys ≡ length (take (e - at) (drop at dst))
      → ys ≡ xor_bytes (m (when own (take (e - at) (drop at dst)) (take (e - at) (drop at src)))) (take (e - at) (drop at mask))
      → Kept m z (when own before src) mask before (take at dst ++ (ys ++ drop (e - at) (drop at dst))) e
  kept_block_next {dst} {at} e p k h l y =
      let xs : List ℕ = when own before src in
      let f : at + z ≤ length xs = kept_block m z xs mask before k h in
      let ez : e - at ≡ z = omega arith in
      kept_next m z xs mask before gives pos e k (omega arith) (omega arith) (ap (λ (x : ℕ). x % z) ez ∙ mod_self z) l
      (y
      ∙ ap (λ (x : List ℕ). xor_bytes (m x) (take (e - at) (drop at mask))) (read_part own before src dst at (e - at) k.stands)
      ∙ ap (λ (x : List ℕ). xor_bytes x (take (e - at) (drop at mask))) (sym (each_block_one m z pos (take (e - at) (drop at xs)) (part_length xs at e (omega arith) (omega arith) ∙ ez))))
