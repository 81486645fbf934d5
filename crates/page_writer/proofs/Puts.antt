-- A record put into place: what the callees leave, and the parts one after another.
-- Assumes nothing.
use mathlib.Core.Path.{◌≡◌, sym, ap, ap₂, ◌∙◌}
use mathlib.Core.List.{List, [], ◌++◌, append-nil, append_assoc}
use Prim.Native.Nat.{ℕ, ◌+◌, ◌-◌, ◌*◌, ◌/◌, ◌%◌, ◌≤◌}
use native.Mathlib.Omega.{arith}
use borrow.Author.Tests.{eq-eqb}
use lib.Dec.{eqb}
use lib.ListN.{length, take, drop, length-drop, length-append}
use lib.Seq.{take_all, drop_at, length-take-le}
use Rattle.forms.specs.Refusals.{unless, outcome}
use Rattle.forms.proofs.Parts.{part_to_end}
use Rattle.pages.specs.Pages.{command, four_bytes, sealed_commands, front, layout, with_tag, sealed_page}
use Rattle.pages.proofs.Commands.{length_four_bytes}
use Rattle.page_heads.proofs.Puts.{with_part, Put, put_part}

-- an operation that is not refused
pub done : {r n : ℕ} {new : List ℕ} (out old : List ℕ) → r ≡ n → n ≡ 0 → new ≡ outcome r out old → new ≡ out
done out old e z o = o ∙ ap (λ (k : ℕ). outcome k out old) (e ∙ z)

-- so the callees that are lent what fits
module _ {r : ℕ} {new : List ℕ} (out old : List ℕ) where
  pub head_done : {title start part : ℕ} → title ≡ 32 → start ≡ 16 → part ≡ 60
      → r ≡ unless (eqb title 32) 19 (unless (eqb start 16) 6 (unless (eqb part 60) 5 0)) → new ≡ outcome r out old → new ≡ out
  head_done {title} {start} {part} t s p e = done out old e (rw (eq-eqb title 32 t, eq-eqb start 16 s, eq-eqb part 60 p))

  pub command_done : (operand part : ℕ) → part ≡ 1 + operand → r ≡ unless (eqb part (1 + operand)) 5 0 → new ≡ outcome r out old → new ≡ out
  command_done operand part p e = done out old e (rw (eq-eqb part (1 + operand) p))

pub apart_done : {r : ℕ} {new : List ℕ} (d : List ℕ) (m : ℕ) → length d ≡ 17 * m → r ≡ unless (eqb (length d % 17) 0) 5 0
    → new ≡ outcome r (sealed_commands (length d / 17) (drop (length d / 17) d)) d → new ≡ sealed_commands m (drop m d)
apart_done d m l e o =
    let w : length d % 17 ≡ 0 = omega arith in
    let i : length d / 17 ≡ m = omega arith in
    done (sealed_commands (length d / 17) (drop (length d / 17) d)) d e (rw (eq-eqb (length d % 17) 0 w)) o ∙ ap (λ (k : ℕ). sealed_commands k (drop k d)) i

-- blocks sealed at the end of a buffer, behind so many bytes
pub sealed_end : (d ys : List ℕ) (m : ℕ) → m ≤ length d → drop m (take m d ++ (ys ++ drop (length d - m) (drop m d))) ≡ ys
sealed_end d ys m h = ap (drop m) (part_to_end d ys m) ∙ drop_at (take m d) ys m (length-take-le m d h)

-- a part from a place to the end
pub from_on : (xs : List ℕ) (at : ℕ) → take (length xs - at) (drop at xs) ≡ drop at xs
from_on xs at = take_all (length xs - at) (drop at xs) (omega (arith, length-drop at xs))

-- the head and the blocks put into a buffer, which has 17 bytes more
module _ (d h b : List ℕ) (at : ℕ) (low : 60 ≤ at) (fits : at + 17 ≤ length d) (lh : length h ≡ 60) (lb : length b ≡ at - 60) where
  p1 : Put d (with_part d h 0 60) h 0 60
  p1 = put_part d h 0 60 (omega arith) (omega arith) (omega arith)

  p2 : Put (with_part d h 0 60) (with_part (with_part d h 0 60) b 60 at) b 60 at
  p2 = put_part (with_part d h 0 60) b 60 at low (omega (arith, p1.kept)) lb

  -- the bytes before the last command
  pub before_last : take at (with_part (with_part d h 0 60) b 60 at) ≡ h ++ b
  before_last = sym (append-nil _) ∙ p2.turn [] ∙ p1.turn (b ++ []) ∙ ap (λ (x : List ℕ). h ++ x) (append-nil b)

-- the commands before the blocks
abbrev pub head : ℕ → ℕ → List ℕ → List ℕ → List ℕ
head number day title start = command 0x10 (four_bytes number) ++ (command 0x11 (four_bytes day) ++ (command 0x12 title ++ command 0x13 start))

head_front : (a b t s c : List ℕ) → (command 0x10 a ++ (command 0x11 b ++ (command 0x12 t ++ command 0x13 s))) ++ c ≡ command 0x10 a ++ (command 0x11 b ++ (command 0x12 t ++ (command 0x13 s ++ c)))
head_front a b t s c = simp append_assoc

-- with the blocks and the tag behind them they are the record
pub page_laid : (seal : List ℕ → List ℕ → List ℕ) (tag : List ℕ → List ℕ) (number day : ℕ) (title start text : List ℕ) {h b g : List ℕ}
    → h ≡ head number day title start → b ≡ sealed_commands (length text / 16) (seal start text) → length (seal start text) ≡ length text → g ≡ command 0x1F (tag (h ++ b))
    → (h ++ b) ++ g ≡ layout (sealed_page seal tag number day title start text)
unfolding layout sealed_page with_tag front
page_laid seal tag number day title start text {h} {b} {g} eh eb l eg =
    let c = sealed_commands (length (seal start text) / 16) (seal start text) in
    let eb' : b ≡ c = eb ∙ ap (λ (n : ℕ). sealed_commands (n / 16) (seal start text)) (sym l) in
    let f : h ++ b ≡ command 0x10 (four_bytes number) ++ (command 0x11 (four_bytes day) ++ (command 0x12 title ++ (command 0x13 start ++ c))) =
    ap₂ ◌++◌ eh eb' ∙ head_front (four_bytes number) (four_bytes day) title start c in
    ap₂ ◌++◌ f (eg ∙ ap (λ (x : List ℕ). command 0x1F (tag x)) f)

pub head_length : (number day : ℕ) (title start : List ℕ) → length title ≡ 32 → length start ≡ 16 → length (head number day title start) ≡ 60
head_length number day title start t s =
    omega (arith, length-append (command 0x10 (four_bytes number)) (command 0x11 (four_bytes day) ++ (command 0x12 title ++ command 0x13 start)), length-append (command 0x11 (four_bytes day)) (command 0x12 title ++ command 0x13 start), length-append (command 0x12 title) (command 0x13 start), length_four_bytes number, length_four_bytes day)
