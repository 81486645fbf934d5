-- By its tests, in order.
-- Assumes nothing.
use mathlib.Core.Path.{◌≡◌, sym, ap, ap₂, ◌∙◌}
use mathlib.Core.Bool.{Bool}
use Prim.Native.Nat.{ℕ}
use native.Mathlib.Omega.{arith}
use borrow.Author.Tests.{lt-ltb, le-ltb}
use lib.Dec.{ltb}
use lib.ListN.{length}
use Rattle.forms.specs.Refusals.{unless}
use Rattle.registers.specs.Registers.{held, replaceable, add_refusal}
use Rattle.registers.proofs.Entries.{held_long}
use Rattle.key_register.proofs.add_refusal.Goals as goal
use Rattle.key_register.proofs.add_refusal.Goals.{Else-not-is_replaceable, Start}

long : (s : Start) → length s.args.r.entries ≡ 64
long s = s.well_formed.0.1.1.1.0.1.0.1

-- the three tests, at what they are found to be
abbrev tests : Bool → Bool → Bool → ℕ
tests a b c = unless a 21 (unless b 22 (unless c 23 0))

pub returns-then-not-is_new : goal.returns-then-not-is_new
unfolding add_refusal
returns-then-not-is_new c =
    let a = c.args in
    let n = c.is_new in
    sym (ap (λ (b : Bool). tests b (replaceable a.replaces (held a.r)) (ltb (length (held a.r)) 64)) (sym n.ensures ∙ c.if-not-is_new.true))

pub returns-then-not-is_replaceable : goal.returns-then-not-is_replaceable
unfolding add_refusal
returns-then-not-is_replaceable c =
    let a = c.args in
    let n = c.is_new in
    let m = c.is_replaceable in
    sym (ap₂ (λ (x y : Bool). tests x y (ltb (length (held a.r)) 64)) (sym n.ensures ∙ c.if-not-is_new.false)
    (sym m.ensures ∙ c.if-not-is_replaceable.true))

-- once the first two have passed
passed : (c : Else-not-is_replaceable) → let a = c.args in
    add_refusal (held a.r) a.number a.replaces ≡ unless (ltb (length (held a.r)) 64) 23 0
unfolding add_refusal
passed c =
    let a = c.args in
    let n = c.is_new in
    let m = c.is_replaceable in
    ap₂ (λ (x y : Bool). tests x y (ltb (length (held a.r)) 64)) (sym n.ensures ∙ c.if-not-is_new.false)
    (sym m.ensures ∙ c.if-not-is_replaceable.false)

pub returns-then-full : goal.returns-then-full
returns-then-full c =
    let a = c.args in
    let l = held_long a.r (long (goal.at.returns-then-full c).Start) in
    sym (passed (goal.at.returns-then-full c).Else-not-is_replaceable ∙ ap (λ (b : Bool). unless b 23 0) (le-ltb (length (held a.r)) 64 (omega arith)))

pub returns : goal.returns
returns c =
    let a = c.args in
    let l = held_long a.r (long (goal.at.returns c).Start) in
    sym (passed (goal.at.returns c).Else-not-is_replaceable ∙ ap (λ (b : Bool). unless b 23 0) (lt-ltb (length (held a.r)) 64 (omega arith)))
