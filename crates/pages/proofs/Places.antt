-- Where the commands of a record stand, counted from its first byte; and what two lists of bytes that are alike have in common.
-- Assumes nothing.
use mathlib.Core.Path.{◌≡◌, refl, sym, ap, ap₂, ◌∙◌}
use mathlib.Core.Bool.{Bool, ◌&&◌}
use mathlib.Core.List.{List}
use Prim.Native.Nat.{ℕ, zero, suc, ◌+◌, ◌-◌, ◌*◌, ◌≤◌, ◌<◌, min}
use native.Mathlib.Omega.{arith}
use lib.Dec.{eqb, ltb}
use lib.ListN.{length, get_or, take, drop, length-drop, length-take}
use lib.Seq.{get_or-drop, get_or-take, drop-drop, ext_get_or}
use Rattle.forms.specs.Lists.{when}
use Rattle.pages.specs.Pages.{begins, operand, behind, times15, behind10, behind11, behind12, behind13, blocks, behind15, headed, ended, is_record, parts, Shown, first, command_byte, Alike}

-- ---- the places of the commands

pub place11 : (r : List ℕ) → behind11 r ≡ drop 10 r
place11 r = drop-drop 5 5 r

pub place12 : (r : List ℕ) → behind12 r ≡ drop 43 r
place12 r = ap (drop 33) (place11 r) ∙ drop-drop 33 10 r

pub place13 : (r : List ℕ) → behind13 r ≡ drop 60 r
place13 r = ap (drop 17) (place12 r) ∙ drop-drop 17 43 r

pub place15 : (r : List ℕ) → behind15 r ≡ drop (60 + 17 * blocks r) r
unfolding behind15
place15 r = ap (drop (17 * blocks r)) (place13 r) ∙ drop-drop (17 * blocks r) 60 r

begins_like : (c w : ℕ) (r s : List ℕ) → length r ≡ length s → get_or r 0 0 ≡ get_or s 0 0 → begins c w r ≡ begins c w s
unfolding begins
begins_like c w r s l e = ap₂ (λ (n x : ℕ). ltb w n && eqb x c) l e

drop_long : (k : ℕ) (r s : List ℕ) → length r ≡ length s → length (drop k r) ≡ length (drop k s)
drop_long k r s l = length-drop k r ∙ ap (λ (n : ℕ). n - k) l ∙ sym (length-drop k s)

times_like : (m : ℕ) (r s : List ℕ) → length r ≡ length s → ((j : ℕ) → get_or r (17 * j) 0 ≡ get_or s (17 * j) 0) → times15 m r ≡ times15 m s
unfolding times15
times_like zero r s l h = refl
times_like (suc m) r s l h =
    ap₂ (λ (b : Bool) (n : ℕ). when b (suc n) 0) (begins_like 0x15 16 r s l (h 0))
    (times_like m (behind 16 r) (behind 16 s) (drop_long 17 r s l)
    (λ j.
    let e : 17 + 17 * j ≡ 17 * suc j = omega arith in
    get_or-drop 17 r (17 * j) 0 ∙ ap (λ (i : ℕ). get_or r i 0) e ∙ h (suc j) ∙ ap (λ (i : ℕ). get_or s i 0) (sym e) ∙ sym (get_or-drop 17 s (17 * j) 0)))

-- ---- the same to the catalogue reader

module _ (r s : List ℕ) (h : Alike r s) where
  at_like : (c w k : ℕ) → Shown k → begins c w (drop k r) ≡ begins c w (drop k s)
  at_like c w k e =
      let i : k + 0 ≡ k = omega arith in
      begins_like c w (drop k r) (drop k s) (drop_long k r s h.long)
      (get_or-drop k r 0 0 ∙ ap (λ (j : ℕ). get_or r j 0) i ∙ h.shown k e ∙ ap (λ (j : ℕ). get_or s j 0) (sym i) ∙ sym (get_or-drop k s 0 0))

  -- a part of the first 44 bytes
  pub part_like : (a w : ℕ) → a + w ≤ 44 → take w (drop a r) ≡ take w (drop a s)
  part_like a w k =
      ext_get_or 0 (take w (drop a r)) (take w (drop a s)) (length-take w (drop a r) ∙ ap (min w) (drop_long a r s h.long) ∙ sym (length-take w (drop a s)))
      (λ i m.
      let j : i < w = omega (arith, length-take w (drop a r)) in
      get_or-take w (drop a r) i 0 j ∙ get_or-drop a r i 0 ∙ h.shown (a + i) (first (omega arith)) ∙ sym (get_or-drop a s i 0) ∙ sym (get_or-take w (drop a s) i 0 j))

  pub blocks_like : blocks r ≡ blocks s
  unfolding blocks
  blocks_like =
      ap (times15 4096) (place13 r)
      ∙ times_like 4096 (drop 60 r) (drop 60 s) (drop_long 60 r s h.long) (λ j. get_or-drop 60 r (17 * j) 0 ∙ h.shown (60 + 17 * j) (command_byte j) ∙ sym (get_or-drop 60 s (17 * j) 0))
      ∙ ap (times15 4096) (sym (place13 s))

  headed_like : headed r ≡ headed s
  unfolding headed
  headed_like =
      ap₂ ◌&&◌ (at_like 0x10 4 0 (first (omega arith)))
      (ap₂ ◌&&◌ (at_like 0x11 4 5 (first (omega arith)))
      (ap₂ ◌&&◌ (ap (begins 0x12 32) (place11 r) ∙ at_like 0x12 32 10 (first (omega arith)) ∙ ap (begins 0x12 32) (sym (place11 s)))
      (ap (begins 0x13 16) (place12 r) ∙ at_like 0x13 16 43 (first (omega arith)) ∙ ap (begins 0x13 16) (sym (place12 s)))))

  ended_like : ended (behind15 r) ≡ ended (behind15 s)
  unfolding ended
  ended_like =
      let k = 60 + 17 * blocks r in
      let e : behind15 s ≡ drop k s = place15 s ∙ ap (λ (n : ℕ). drop (60 + 17 * n) s) (sym blocks_like) in
      ap ended (place15 r)
      ∙ ap₂ (λ (b : Bool) (n : ℕ). b && eqb n 17) (at_like 0x1F 16 k (command_byte (blocks r))) (drop_long k r s h.long)
      ∙ ap ended (sym e)

  pub is_record_like : is_record r ≡ is_record s
  unfolding is_record
  is_record_like = ap₂ ◌&&◌ headed_like ended_like

  pub title_like : (parts r).title ≡ (parts s).title
  unfolding parts
  title_like = ap (operand 32) (place11 r) ∙ ap (take 32) (drop-drop 1 10 r) ∙ part_like 11 32 (omega arith) ∙ sym (ap (operand 32) (place11 s) ∙ ap (take 32) (drop-drop 1 10 s))

  pub day_like : operand 4 (behind10 r) ≡ operand 4 (behind10 s)
  day_like = ap (take 4) (drop-drop 1 5 r) ∙ part_like 6 4 (omega arith) ∙ sym (ap (take 4) (drop-drop 1 5 s))
