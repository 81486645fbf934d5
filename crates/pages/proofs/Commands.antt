-- Laws of single commands, of commands 15 one after another, and of numbers of four bytes.
-- Assumes nothing.
use mathlib.Core.Path.{◌≡◌, refl, sym, ap, ap₂, ◌∙◌, subst}
use mathlib.Core.Bool.{Bool, true, false, ◌&&◌}
use mathlib.Core.List.{List, [], ◌∷◌, ◌++◌, append_assoc}
use mathlib.Core.Logic.{◌↔◌}
use Prim.Native.Nat.{ℕ, zero, suc, ◌+◌, ◌-◌, ◌*◌, ◌^◌, ◌≤◌, ◌<◌}
use native.Mathlib.Nat.{mod-eq_of_lt}
use native.Mathlib.Omega.{arith}
use borrow.Author.Tests.{eq-eqb, eqb-true, lt-ltb, ltb-true}
use lib.Dec.{eqb, ltb}
use lib.ListN.{length, get_or, take, drop, length-append, length-drop, take-append-drop}
use lib.Seq.{take_at, drop_at, drop-drop, get_or-drop, length-take-le, ext_get_or}
use Rattle.forms.specs.Lists.{tabulate, when}
use Rattle.forms.specs.Words.{byte, join}
use Rattle.forms.proofs.Lists.{length_tabulate, get_d_tabulate}
use Rattle.forms.proofs.Words.{join_cong, join_byte, join_lt, byte_join}
use Rattle.forms.proofs.Bytes.{Bytes}
use Rattle.forms.proofs.Booleans.{and_both, by_test}
use Rattle.pages.specs.Pages.{command, four_bytes, sealed_commands, begins, operand, behind, four_byte_number, times15, sealed_operands}

-- ---- one command

-- some bytes begin with a command exactly when its byte stands first and its operand is whole
pub begins_iff : (c w : ℕ) (bytes : List ℕ) → (begins c w bytes ≡ true) ↔ ((w < length bytes) × (get_or bytes 0 0 ≡ c))
unfolding begins
begins_iff c w bytes = (
  λ e. let h = and_both (ltb w (length bytes)) (eqb (get_or bytes 0 0) c) e in (ltb-true w (length bytes) h.0, eqb-true (get_or bytes 0 0) c h.1),
  λ h. rw (lt-ltb w (length bytes) h.0, eq-eqb (get_or bytes 0 0) c h.1),
)

pub begins_other : (c w : ℕ) (bytes : List ℕ) → (get_or bytes 0 0 ≡ c → ⊥) → begins c w bytes ≡ false
begins_other c w bytes h = by_test (begins c w bytes) (λ e. absurd (h ((begins_iff c w bytes).0 e).1)) (λ e. e)

-- as the code tests it, from a place on
pub begins_short : (c w at : ℕ) (bytes : List ℕ) → length bytes - at ≤ w → false ≡ begins c w (drop at bytes)
begins_short c w at bytes h =
    by_test (begins c w (drop at bytes)) (λ e. let z : ⊥ = omega (arith, ((begins_iff c w (drop at bytes)).0 e).0, length-drop at bytes) in absurd z) (λ e. sym e)

pub begins_long : (c w at : ℕ) (bytes : List ℕ) → w < length bytes - at → eqb (get_or bytes at 0) c ≡ begins c w (drop at bytes)
unfolding begins
begins_long c w at bytes h =
    let i : at ≡ at + 0 = omega arith in
    let l : w < length (drop at bytes) = omega (arith, length-drop at bytes) in
    ap (λ (x : ℕ). eqb x c) (ap (λ (k : ℕ). get_or bytes k 0) i ∙ sym (get_or-drop at bytes 0 0)) ∙ sym (ap (λ (b : Bool). b && eqb (get_or (drop at bytes) 0 0) c) (lt-ltb w (length (drop at bytes)) l))

module _ (c w : ℕ) (xs rest : List ℕ) (e : length xs ≡ w) where
  pub command_begins : begins c w (command c xs ++ rest) ≡ true
  command_begins = (begins_iff c w (command c xs ++ rest)).1 (omega (arith, length-append xs rest), refl)

  pub command_operand : operand w (command c xs ++ rest) ≡ xs
  command_operand = take_at xs rest w e

  pub command_behind : behind w (command c xs ++ rest) ≡ rest
  command_behind = (let i : 1 + w ≡ suc w = omega arith in ap (λ (k : ℕ). drop k (c ∷ (xs ++ rest))) i) ∙ drop_at xs rest w e

-- and what begins with a command is that command with its operand, and the bytes behind it
pub command_of : (c w : ℕ) (bytes : List ℕ) → begins c w bytes ≡ true → bytes ≡ command c (operand w bytes) ++ behind w bytes
command_of c w [] e = let h = (begins_iff c w []).0 e in let z : ⊥ = omega arith in absurd z
command_of c w (x ∷ xs) e =
    ap₂ ◌∷◌ ((begins_iff c w (x ∷ xs)).0 e).1
    (sym (take-append-drop w xs) ∙ (let i : suc w ≡ 1 + w = omega arith in ap (λ (k : ℕ). take w xs ++ drop k (x ∷ xs)) i))

pub operand_length : (c w : ℕ) (bytes : List ℕ) → begins c w bytes ≡ true → length (operand w bytes) ≡ w
operand_length c w bytes e = length-take-le w (drop 1 bytes) (omega (arith, length-drop 1 bytes, ((begins_iff c w bytes).0 e).0))

-- ---- commands 15

pub times_yes : (m : ℕ) (bytes : List ℕ) → begins 0x15 16 bytes ≡ true → times15 (suc m) bytes ≡ suc (times15 m (behind 16 bytes))
unfolding times15
times_yes m bytes e = ap (λ (b : Bool). when b (suc (times15 m (behind 16 bytes))) 0) e

pub times_no : (m : ℕ) (bytes : List ℕ) → begins 0x15 16 bytes ≡ false → times15 m bytes ≡ 0
unfolding times15
times_no zero bytes e = refl
times_no (suc m) bytes e = ap (λ (b : Bool). when b (suc (times15 m (behind 16 bytes))) 0) e

-- no more than so many are counted
pub times_most : (m : ℕ) (bytes : List ℕ) → times15 m bytes ≤ m
unfolding times15
times_most zero bytes = omega arith
times_most (suc m) bytes =
    by_test (begins 0x15 16 bytes) (λ e. omega (arith, times_yes m bytes e, times_most m (behind 16 bytes))) (λ e. omega (arith, times_no (suc m) bytes e))

-- all of them stand within the bytes
pub times_within : (m : ℕ) (bytes : List ℕ) → 17 * times15 m bytes ≤ length bytes
unfolding times15
times_within zero bytes = omega arith
times_within (suc m) bytes =
    by_test (begins 0x15 16 bytes)
    (λ e. omega (arith, times_yes m bytes e, times_within m (behind 16 bytes), length-drop 17 bytes, ((begins_iff 0x15 16 bytes).0 e).0))
    (λ e. omega (arith, times_no (suc m) bytes e))

pub length_sealed_commands : (m : ℕ) (s : List ℕ) → 16 * m ≤ length s → length (sealed_commands m s) ≡ 17 * m
unfolding sealed_commands
length_sealed_commands zero s h = omega arith
length_sealed_commands (suc m) s h =
    let l = length_sealed_commands m (drop 16 s) (omega (arith, length-drop 16 s)) in
    omega (arith, length-append (take 16 s) (sealed_commands m (drop 16 s)), length-take-le 16 s (omega arith))

pub length_sealed_operands : (m : ℕ) (bytes : List ℕ) → 17 * m ≤ length bytes → length (sealed_operands m bytes) ≡ 16 * m
unfolding sealed_operands
length_sealed_operands zero bytes h = omega arith
length_sealed_operands (suc m) bytes h =
    let l = length_sealed_operands m (behind 16 bytes) (omega (arith, length-drop 17 bytes)) in
    omega (arith, length-append (operand 16 bytes) (sealed_operands m (behind 16 bytes)), length-take-le 16 (drop 1 bytes) (omega (arith, length-drop 1 bytes)))

-- m commands 15, with something else behind them, are counted
pub times_commands : (m most : ℕ) (s rest : List ℕ) → 16 * m ≤ length s → m ≤ most → begins 0x15 16 rest ≡ false → times15 most (sealed_commands m s ++ rest) ≡ m
unfolding sealed_commands
times_commands zero most s rest h k e = times_no most rest e
times_commands (suc m) zero s rest h k e = let z : ⊥ = omega arith in absurd z
times_commands (suc m) (suc most) s rest h k e =
    let l = length-take-le 16 s (omega arith) in
    let a : sealed_commands (suc m) s ++ rest ≡ command 0x15 (take 16 s) ++ (sealed_commands m (drop 16 s) ++ rest) = append_assoc (command 0x15 (take 16 s)) (sealed_commands m (drop 16 s)) rest in
    ap (times15 (suc most)) a
    ∙ times_yes most _ (command_begins 0x15 16 (take 16 s) _ l)
    ∙ ap (λ (x : List ℕ). suc (times15 most x)) (command_behind 0x15 16 (take 16 s) _ l)
    ∙ ap suc (times_commands m most (drop 16 s) rest (omega (arith, length-drop 16 s)) (omega arith) e)

-- their operands are read back
pub operands_commands : (m : ℕ) (s rest : List ℕ) → length s ≡ 16 * m → sealed_operands m (sealed_commands m s ++ rest) ≡ s
unfolding sealed_commands sealed_operands
operands_commands zero [] rest h = refl
operands_commands zero (x ∷ s) rest h = let z : ⊥ = omega arith in absurd z
operands_commands (suc m) s rest h =
    let l = length-take-le 16 s (omega arith) in
    let a : sealed_commands (suc m) s ++ rest ≡ command 0x15 (take 16 s) ++ (sealed_commands m (drop 16 s) ++ rest) = append_assoc (command 0x15 (take 16 s)) (sealed_commands m (drop 16 s)) rest in
    ap (sealed_operands (suc m)) a
    ∙ ap₂ (λ (x y : List ℕ). x ++ sealed_operands m y) (command_operand 0x15 16 (take 16 s) _ l) (command_behind 0x15 16 (take 16 s) _ l)
    ∙ ap (λ (x : List ℕ). take 16 s ++ x) (operands_commands m (drop 16 s) rest (omega (arith, length-drop 16 s)))
    ∙ take-append-drop 16 s

-- what is behind m commands 15
pub drop_commands : (m : ℕ) (s rest : List ℕ) → 16 * m ≤ length s → drop (17 * m) (sealed_commands m s ++ rest) ≡ rest
drop_commands m s rest h = drop_at (sealed_commands m s) rest (17 * m) (length_sealed_commands m s h)

-- the commands 15 that are counted are those of their operands
pub commands_operands : (m most : ℕ) (bytes : List ℕ) → m ≤ times15 most bytes → bytes ≡ sealed_commands m (sealed_operands m bytes) ++ drop (17 * m) bytes
unfolding sealed_commands sealed_operands
commands_operands zero most bytes h = refl
commands_operands (suc m) zero bytes h = let z : ⊥ = omega (arith, times_most 0 bytes) in absurd z
commands_operands (suc m) (suc most) bytes h =
    by_test (begins 0x15 16 bytes)
    (λ e.
    let l = operand_length 0x15 16 bytes e in
    let o = sealed_operands m (behind 16 bytes) in
    let i : 17 * suc m ≡ 17 + 17 * m = omega arith in
    command_of 0x15 16 bytes e
    ∙ ap (λ (x : List ℕ). command 0x15 (operand 16 bytes) ++ x) (commands_operands m most (behind 16 bytes) (omega (arith, times_yes most bytes e)))
    ∙ sym (append_assoc (command 0x15 (operand 16 bytes)) (sealed_commands m o) (drop (17 * m) (behind 16 bytes)))
    ∙ ap₂ ◌++◌ (ap₂ (λ (x y : List ℕ). command 0x15 x ++ sealed_commands m y) (sym (take_at (operand 16 bytes) o 16 l)) (sym (drop_at (operand 16 bytes) o 16 l)))
    (drop-drop (17 * m) 17 bytes ∙ ap (λ (k : ℕ). drop k bytes) (sym i)))
    (λ e. let z : ⊥ = omega (arith, times_no (suc most) bytes e) in absurd z)

-- ---- numbers of four bytes

pub length_four_bytes : (v : ℕ) → length (four_bytes v) ≡ 4
unfolding four_bytes
length_four_bytes v = length_tabulate 4 (byte v)

pub number_four_bytes : (v : ℕ) → v < 2 ^ 32 → four_byte_number (four_bytes v) ≡ v
unfolding four_byte_number four_bytes
number_four_bytes v h =
    join_cong 4 (λ i. get_or (tabulate 4 (byte v)) i 0) (byte v) (λ k l. get_d_tabulate 4 (byte v) 0 k l) ∙ join_byte 4 v ∙ mod-eq_of_lt h

pub four_bytes_number : (xs : List ℕ) → length xs ≡ 4 → Bytes xs → four_bytes (four_byte_number xs) ≡ xs
unfolding four_byte_number four_bytes
four_bytes_number xs e h =
    let n = join 4 (λ i. get_or xs i 0) in
    ext_get_or 0 (tabulate 4 (byte n)) xs (length_tabulate 4 (byte n) ∙ sym e)
    (λ i l. let k : i < 4 = subst (λ (m : ℕ). i < m) (length_tabulate 4 (byte n)) l in get_d_tabulate 4 (byte n) 0 i k ∙ byte_join 4 (λ i. get_or xs i 0) h i k)

pub number_below : (xs : List ℕ) → Bytes xs → four_byte_number xs < 2 ^ 32
unfolding four_byte_number
number_below xs h = join_lt 4 (λ i. get_or xs i 0) h
