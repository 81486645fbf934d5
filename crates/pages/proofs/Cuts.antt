-- A record byte by byte: the places of its parts, the byte 15 before each block and 1F behind the last one. So what is cut short, or has bytes behind it, is no
-- record; and two records that differ only in start block, sealed bytes or tag are alike.
-- Assumes nothing.
use mathlib.Core.Path.{◌≡◌, sym, ap, ap₂, ◌∙◌}
use mathlib.Core.Bool.{true, false, true≢false}
use mathlib.Core.List.{List, [], ◌∷◌, ◌++◌, append_assoc}
use Prim.Native.Nat.{ℕ, zero, suc, ◌+◌, ◌*◌, ◌-◌, ◌/◌, ◌<◌, ◌≤◌}
use native.Mathlib.Omega.{arith}
use borrow.Author.Tests.{eqb-true, eqb-false, ltb-true, ltb-false}
use lib.Dec.{eqb, ltb}
use lib.ListN.{length, get_or, take, drop, length-append, length-drop, get_or-append, get_or-eq_default}
use lib.Seq.{get_or-drop, get_or-take, length-take-le, take_all, take_at, drop-drop, drop-append-add, take-append_seam}
use Rattle.forms.proofs.Booleans.{by_test}
use Rattle.pages.specs.Pages.{Page, Widths, command, four_bytes, sealed_commands, front, layout, begins, operand, times15, sealed_operands, behind, behind13, behind15, four_byte_number, blocks, is_record, parts, Shown, first, command_byte, Alike}
use Rattle.pages.proofs.Commands.{begins_iff, times_yes, times_no, times_most, times_within, length_four_bytes}
use Rattle.pages.proofs.Layouts.{Layout, has_layout, record_length_lem, layout_is_record, layout_blocks}
use Rattle.pages.proofs.Places.{place11, place12, place13, place15}

-- ---- the command bytes from byte 60 on

times_at : (j most : ℕ) (bytes : List ℕ) → j < times15 most bytes → get_or bytes (17 * j) 0 ≡ 0x15
times_at j zero bytes h = let z : ⊥ = omega (arith, times_most 0 bytes) in absurd z
times_at zero (suc most) bytes h =
    by_test _ (λ e. ((begins_iff 0x15 16 bytes).0 e).1) (λ e. let z : ⊥ = omega (arith, times_no (suc most) bytes e) in absurd z)
times_at (suc j) (suc most) bytes h =
    by_test _
    (λ e.
    let i : 17 * suc j ≡ 17 + 17 * j = omega arith in
    ap (λ (k : ℕ). get_or bytes k 0) i ∙ sym (get_or-drop 17 bytes (17 * j) 0) ∙ times_at j most (behind 16 bytes) (omega (arith, times_yes most bytes e)))
    (λ e. let z : ⊥ = omega (arith, times_no (suc most) bytes e) in absurd z)

module _ (r : List ℕ) (e : is_record r ≡ true) where
  pub record_15 : (j : ℕ) → j < blocks r → get_or r (60 + 17 * j) 0 ≡ 0x15
  unfolding blocks
  record_15 j h = sym (get_or-drop 60 r (17 * j) 0) ∙ ap (λ (x : List ℕ). get_or x (17 * j) 0) (sym (place13 r)) ∙ times_at j 4096 (behind13 r) h

  pub record_1F : get_or r (60 + 17 * blocks r) 0 ≡ 0x1F
  record_1F =
      let k = 60 + 17 * blocks r in
      let i : k ≡ k + 0 = omega arith in
      ap (λ (j : ℕ). get_or r j 0) i ∙ sym (get_or-drop k r 0 0) ∙ ap (λ (x : List ℕ). get_or x 0 0) (sym (place15 r)) ∙ ((begins_iff 0x1F 16 (behind15 r)).0 (has_layout r e).at1_f).1

-- and those before them
module _ (r : List ℕ) (e : is_record r ≡ true) where
  abbrev l : Layout r
  l = has_layout r e

  at : (c w k : ℕ) → begins c w (drop k r) ≡ true → get_or r k 0 ≡ c
  at c w k b =
      let i : k ≡ k + 0 = omega arith in
      ap (λ (j : ℕ). get_or r j 0) i ∙ sym (get_or-drop k r 0 0) ∙ ((begins_iff c w (drop k r)).0 b).1

  pub record_heads : (get_or r 0 0 ≡ 0x10) × (get_or r 5 0 ≡ 0x11) × (get_or r 10 0 ≡ 0x12) × (get_or r 43 0 ≡ 0x13)
  record_heads = (
    at 0x10 4 0 l.at10,
    at 0x11 4 5 l.at11,
    at 0x12 32 10 (ap (begins 0x12 32) (sym (place11 r)) ∙ l.at12),
    at 0x13 16 43 (ap (begins 0x13 16) (sym (place12 r)) ∙ l.at13),
  )

-- ---- the places of the parts

operands_block : (i m : ℕ) (bytes : List ℕ) → i < m → 17 * m ≤ length bytes → take 16 (drop (16 * i) (sealed_operands m bytes)) ≡ take 16 (drop (1 + 17 * i) bytes)
unfolding sealed_operands
operands_block i zero bytes h l = let z : ⊥ = omega arith in absurd z
operands_block zero (suc m) bytes h l = take_at (operand 16 bytes) _ 16 (length-take-le 16 (drop 1 bytes) (omega (arith, length-drop 1 bytes)))
operands_block (suc i) (suc m) bytes h l =
    let rest = sealed_operands m (behind 16 bytes) in
    let k = length-take-le 16 (drop 1 bytes) (omega (arith, length-drop 1 bytes)) in
    let a : 16 * suc i ≡ length (operand 16 bytes) + 16 * i = omega arith in
    let b : 17 + (1 + 17 * i) ≡ 1 + 17 * suc i = omega arith in
    ap (take 16) (ap (λ (n : ℕ). drop n (operand 16 bytes ++ rest)) a ∙ drop-append-add (operand 16 bytes) rest (16 * i))
    ∙ operands_block i m (behind 16 bytes) (omega arith) (omega (arith, length-drop 17 bytes))
    ∙ ap (take 16) (drop-drop (1 + 17 * i) 17 bytes ∙ ap (λ (n : ℕ). drop n bytes) b)

module _ (r : List ℕ) (e : is_record r ≡ true) where
  pub record_day : (parts r).day ≡ four_byte_number (take 4 (drop 6 r))
  unfolding parts
  record_day = ap (λ (x : List ℕ). four_byte_number (take 4 x)) (drop-drop 1 5 r)

  pub record_start : (parts r).start ≡ take 16 (drop 44 r)
  unfolding parts
  record_start = ap (operand 16) (place12 r) ∙ ap (take 16) (drop-drop 1 43 r)

  pub record_block : (i : ℕ) → i < blocks r → take 16 (drop (16 * i) (parts r).sealed) ≡ take 16 (drop (61 + 17 * i) r)
  unfolding parts blocks
  record_block i h =
      let k : 60 + (1 + 17 * i) ≡ 61 + 17 * i = omega arith in
      operands_block i (blocks r) (behind13 r) h (times_within 4096 (behind13 r))
      ∙ ap (λ (x : List ℕ). take 16 (drop (1 + 17 * i) x)) (place13 r)
      ∙ ap (take 16) (drop-drop (1 + 17 * i) 60 r ∙ ap (λ (n : ℕ). drop n r) k)

  pub record_tag : (parts r).tag ≡ drop (length r - 16) r
  unfolding parts
  record_tag =
      let m = record_length_lem r e in
      let k : 60 + 17 * blocks r + 1 ≡ length r - 16 = omega arith in
      ap (operand 16) (place15 r)
      ∙ ap (take 16) (drop-drop 1 (60 + 17 * blocks r) r ∙ ap (λ (n : ℕ). drop n r) k)
      ∙ take_all 16 (drop (length r - 16) r) (omega (arith, length-drop (length r - 16) r))

-- what is before 1F is all but the last 17 bytes
pub layout_front : (p : Page) → length p.tag ≡ 16 → front p ≡ take (length (layout p) - 17) (layout p)
unfolding layout
layout_front p w =
    let k : length (front p) ≡ length (layout p) - 17 = omega (arith, length-append (front p) (command 0x1F p.tag)) in
    sym (take_at (front p) (command 0x1F p.tag) (length (layout p) - 17) k)

-- ---- no other length

pub cut_short : (r : List ℕ) → is_record r ≡ true → (k : ℕ) → k < length r → is_record (take k r) ≡ false
cut_short r e k h =
    by_test (is_record (take k r))
    (λ t.
    let n = blocks (take k r) in
    let l = length-take-le k r (omega arith) in
    let m = record_length_lem (take k r) t in
    let a = record_15 r e n (omega (arith, record_length_lem r e)) in
    let b = sym (get_or-take k r (60 + 17 * n) 0 (omega arith)) ∙ record_1F (take k r) t in
    let z : ⊥ = omega arith in
    absurd z)
    (λ f. f)

pub run_on : (r : List ℕ) → is_record r ≡ true → (x : ℕ) (more : List ℕ) → is_record (r ++ (x ∷ more)) ≡ false
run_on r e x more =
    by_test (is_record (r ++ (x ∷ more)))
    (λ t. absurd (true≢false (sym e ∙ ap is_record (sym (take-append_seam r (x ∷ more))) ∙ cut_short (r ++ (x ∷ more)) t (length r) (omega (arith, length-append r (x ∷ more))))))
    (λ f. f)

-- ---- what the catalogue reader can't tell apart

-- the byte before a block, that behind the last one, and none
command_bytes : (r s : List ℕ) → is_record r ≡ true → is_record s ≡ true → blocks r ≡ blocks s → (j : ℕ) → get_or r (60 + 17 * j) 0 ≡ get_or s (60 + 17 * j) 0
command_bytes r s e f b j =
    by_test (ltb j (blocks r))
    (λ t. let l = ltb-true j (blocks r) t in record_15 r e j l ∙ sym (record_15 s f j (omega arith)))
    (λ u.
    by_test (eqb j (blocks r))
    (λ t.
    let k = eqb-true j (blocks r) t in
    ap (λ (i : ℕ). get_or r (60 + 17 * i) 0) k ∙ record_1F r e ∙ sym (record_1F s f) ∙ ap (λ (i : ℕ). get_or s (60 + 17 * i) 0) (sym (k ∙ b)))
    (λ v.
    let n = eqb-false j (blocks r) v in
    let l = ltb-false j (blocks r) u in
    let x = record_length_lem r e in
    let y = record_length_lem s f in
    get_or-eq_default r 0 (omega arith) ∙ sym (get_or-eq_default s 0 (omega arith))))

-- bytes 0 to 43
abbrev head : ℕ → ℕ → List ℕ → List ℕ
head number day title = command 0x10 (four_bytes number) ++ (command 0x11 (four_bytes day) ++ (command 0x12 title ++ command 0x13 []))

layout_head : (p : Page)
    → layout p ≡ head p.number p.day p.title ++ (p.start ++ (sealed_commands (length p.sealed / 16) p.sealed ++ command 0x1F p.tag))
unfolding layout front
layout_head p = simp append_assoc

length_head : (number day : ℕ) (title : List ℕ) → length title ≡ 32 → length (head number day title) ≡ 44
length_head number day title e =
    omega (arith, length-append (four_bytes number) (command 0x11 (four_bytes day) ++ (command 0x12 title ++ command 0x13 [])), length_four_bytes number, length-append (four_bytes day) (command 0x12 title ++ command 0x13 []), length_four_bytes day, length-append title (command 0x13 []))

module _ (p q : Page) (v : Widths p) (w : Widths q) (number : p.number ≡ q.number) (day : p.day ≡ q.day) (title : p.title ≡ q.title) (long : length p.sealed ≡ length q.sealed) where
  same_blocks : blocks (layout p) ≡ blocks (layout q)
  same_blocks = layout_blocks p v ∙ ap (λ (n : ℕ). n / 16) long ∙ sym (layout_blocks q w)

  same_head : head p.number p.day p.title ≡ head q.number q.day q.title
  same_head = ap₂ (λ (a b : ℕ). head a b p.title) number day ∙ ap (head q.number q.day) title

  pub hidden_alike : Alike (layout p) (layout q)
  hidden_alike =
      record {
        long = record_length_lem (layout p) (layout_is_record p v) ∙ ap (λ (n : ℕ). 77 + 17 * n) same_blocks ∙ sym (record_length_lem (layout q) (layout_is_record q w));
        shown = λ i h. shown i h;
      }
    where
      shown : (i : ℕ) → Shown i → get_or (layout p) i 0 ≡ get_or (layout q) i 0
      shown i (first h) =
          ap (λ (x : List ℕ). get_or x i 0) (layout_head p)
          ∙ get_or-append (head p.number p.day p.title) _ 0 i (omega (arith, length_head p.number p.day p.title v.title))
          ∙ ap (λ (x : List ℕ). get_or x i 0) same_head
          ∙ sym (get_or-append (head q.number q.day q.title) _ 0 i (omega (arith, length_head q.number q.day q.title w.title)))
          ∙ ap (λ (x : List ℕ). get_or x i 0) (sym (layout_head q))
      shown i (command_byte j) = command_bytes (layout p) (layout q) (layout_is_record p v) (layout_is_record q w) same_blocks j
