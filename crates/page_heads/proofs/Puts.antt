-- A command put into a buffer, and parts of a buffer put one after another.
-- Assumes nothing.
use mathlib.Core.Path.{◌≡◌, sym, ap, ◌∙◌}
use mathlib.Core.List.{List, [], ◌∷◌, ◌++◌, append-nil}
use Prim.Native.Nat.{ℕ, suc, ◌+◌, ◌-◌, ◌%◌, ◌≤◌}
use native.Mathlib.Nat.{div-one}
use native.Mathlib.Omega.{arith}
use lib.ListN.{length, take, drop, set, drop_of_length-le}
use lib.Seq.{take_all}
use Rattle.std.specs.Int.{w32, bytes_low_first, to_le_bytes}
use Rattle.forms.specs.Lists.{tabulate}
use Rattle.forms.specs.Words.{byte}
use Rattle.forms.proofs.Parts.{part_kept, part_turn}
use Rattle.pages.specs.Pages.{command, four_bytes}

-- a byte is set at the front, and the part behind it comes back as the operand
pub put_behind : (d xs : List ℕ) (c : ℕ) {ys : List ℕ} → length d ≡ 1 + length xs → ys ≡ xs
    → take 1 (set d 0 c) ++ (ys ++ drop (length (set d 0 c) - 1) (drop 1 (set d 0 c))) ≡ command c xs
put_behind [] xs c l e = let z : ⊥ = omega arith in absurd z
put_behind (x ∷ d) xs c {ys} l e =
    ap (λ (y : List ℕ). c ∷ (ys ++ y)) (drop_of_length-le d {i = suc (length d) - 1} (omega arith)) ∙ ap (λ (y : List ℕ). c ∷ y) (append-nil ys ∙ e)

-- the library's bytes of a number
pub number_bytes : (v : ℕ) → to_le_bytes w32 v ≡ four_bytes v
unfolding four_bytes tabulate byte
number_bytes v = ap (λ (x : ℕ). x % 256 ∷ bytes_low_first 1 3 v) (sym (div-one v))

-- ---- parts one after another

-- the buffer with ys put from a place to another
abbrev pub with_part : List ℕ → List ℕ → ℕ → ℕ → List ℕ
with_part d ys at end = take at d ++ (ys ++ drop (end - at) (drop at d))

-- what is left then, and what stands before the part's end
pub record Put (d d' ys : List ℕ) (at end : ℕ) : Type 0 where
  pub kept : length d' ≡ length d
  pub turn : (rest : List ℕ) → take end d' ++ rest ≡ take at d ++ (ys ++ rest)

pub put_part : (d ys : List ℕ) (at end : ℕ) → at ≤ end → end ≤ length d → length ys ≡ end - at → Put d (with_part d ys at end) ys at end
put_part d ys at end h k l = record { kept = part_kept d ys at end h k l; turn = part_turn d ys at end h k l }

pub four_parts : (d y1 y2 y3 y4 : List ℕ) → length d ≡ 60 → length y1 ≡ 5 → length y2 ≡ 5 → length y3 ≡ 33 → length y4 ≡ 17
    → with_part (with_part (with_part (with_part d y1 0 5) y2 5 10) y3 10 43) y4 43 60 ≡ y1 ++ (y2 ++ (y3 ++ y4))
four_parts d y1 y2 y3 y4 l a b c e =
    let d1 = with_part d y1 0 5 in
    let p1 = put_part d y1 0 5 (omega arith) (omega arith) (omega arith) in
    let d2 = with_part d1 y2 5 10 in
    let p2 = put_part d1 y2 5 10 (omega arith) (omega (arith, p1.kept)) (omega arith) in
    let d3 = with_part d2 y3 10 43 in
    let p3 = put_part d2 y3 10 43 (omega arith) (omega (arith, p1.kept, p2.kept)) (omega arith) in
    let d4 = with_part d3 y4 43 60 in
    let p4 = put_part d3 y4 43 60 (omega arith) (omega (arith, p1.kept, p2.kept, p3.kept)) (omega arith) in
    sym (append-nil d4) ∙ ap (λ (x : List ℕ). x ++ []) (sym (take_all 60 d4 (omega (arith, p1.kept, p2.kept, p3.kept, p4.kept))))
    ∙ p4.turn [] ∙ p3.turn (y4 ++ []) ∙ p2.turn (y3 ++ (y4 ++ [])) ∙ p1.turn (y2 ++ (y3 ++ (y4 ++ [])))
    ∙ ap (λ (x : List ℕ). y1 ++ (y2 ++ (y3 ++ x))) (append-nil y4)
