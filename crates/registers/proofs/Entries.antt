-- Laws of what a register holds, and of what numbers match.
-- Assumes nothing.
use mathlib.Core.Path.{◌≡◌, refl, sym, ◌∙◌}
use mathlib.Core.Bool.{true, not}
use mathlib.Core.List.{List, [], ◌∷◌, map}
use mathlib.Core.Logic.{◌↔◌}
use Prim.Native.Nat.{ℕ, zero, suc, ◌<◌, min}
use native.Mathlib.Omega.{arith}
use native.Mathlib.Nat.{le_of_suc-le-suc}
use borrow.Author.Tests.{eq-eqb, ne_eqb, eqb-true, eqb-false, not-true}
use lib.Dec.{eqb}
use lib.ListN.{get_or, length, length-take, length-map}
use lib.Seq.{get_or-take}
use Rattle.forms.proofs.Booleans.{and_both}
use Rattle.registers.specs.declared.Entry.{Entry}
use Rattle.registers.specs.declared.Register.{Register}
use Rattle.registers.specs.Registers.{blank, held, entry_at, number_at, replaces_at, matches, has_number, replaces_number}

-- ---- what is held

pub held_long : (r : Register) → length r.entries ≡ 64 → length (held r) ≡ min r.count 64
unfolding held
held_long r l = omega (arith, length-take (min r.count 64) r.entries)

-- within a list the default doesn't matter
any_default : (es : List Entry) (i : ℕ) (d d' : Entry) → i < length es → get_or es i d ≡ get_or es i d'
any_default [] i d d' l = let z : ⊥ = omega arith in absurd z
any_default (e ∷ es) zero d d' l = refl
any_default (e ∷ es) (suc i) d d' l = any_default es i d d' (le_of_suc-le-suc l)

-- an entry as the code reads it
abbrev pub read_at : Register → ℕ → Entry
read_at r i = get_or r.entries i (record { number = 0; replaces = 0; key = [] })

pub read_held : (r : Register) (i : ℕ) → length r.entries ≡ 64 → i < min r.count 64 → read_at r i ≡ entry_at (held r) i
unfolding held entry_at
read_held r i l m = any_default r.entries i _ blank (omega arith) ∙ sym (get_or-take (min r.count 64) r.entries i blank m)

-- what a function is told of a record's array, passed by value: how long it is
pub unmapped : {B : Type 0} (xs : List Entry) (f : Entry → B) {n : ℕ} → length (map f xs) ≡ n → length xs ≡ n
unmapped xs f e = sym (length-map xs f) ∙ e

-- ---- matches, in plain terms

pub matches_iff : (number other : ℕ) → (matches number other ≡ true) ↔ ((number ≡ 0 → ⊥) × (other ≡ number))
unfolding matches
matches_iff number other = (
  λ e. let t = and_both (not (eqb number 0)) (eqb number other) e in
      (eqb-false number 0 (not-true (eqb number 0) t.0), sym (eqb-true number other t.1)),
  λ h. rw (ne_eqb number 0 h.0, eq-eqb number other (sym h.1)),
)

pub has_iff : (number : ℕ) (es : List Entry) (i : ℕ) → (has_number number (entry_at es i) ≡ true) ↔ ((number ≡ 0 → ⊥) × (number_at es i ≡ number))
unfolding has_number
has_iff number es i = matches_iff number (number_at es i)

pub replaces_iff : (number : ℕ) (es : List Entry) (i : ℕ) → (replaces_number number (entry_at es i) ≡ true) ↔ ((number ≡ 0 → ⊥) × (replaces_at es i ≡ number))
unfolding replaces_number
replaces_iff number es i = matches_iff number (replaces_at es i)
