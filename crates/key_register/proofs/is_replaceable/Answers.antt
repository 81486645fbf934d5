-- By its tests, in order.
-- Assumes nothing.
use mathlib.Core.Path.{sym, ap, ap₂, ◌∙◌}
use mathlib.Core.Bool.{Bool, not, ◌&&◌, ◌||◌}
use borrow.Author.Tests.{eq-eqb, ne_eqb}
use Rattle.registers.specs.Registers.{held, present, replaced, replaceable}
use Rattle.key_register.proofs.is_replaceable.Goals as goal

pub returns-then-number-eq0 : goal.returns-then-number-eq0
unfolding replaceable
returns-then-number-eq0 c =
    let a = c.args in
    sym (ap (λ (b : Bool). b || (present a.number (held a.r) && not (replaced a.number (held a.r)))) (eq-eqb a.number 0 c.if-number-eq0.true))

pub returns-then-not-some : goal.returns-then-not-some
unfolding replaceable present
returns-then-not-some c =
    let a = c.args in
    sym (ap₂ (λ (x y : Bool). x || (y && not (replaced a.number (held a.r)))) (ne_eqb a.number 0 c.if-number-eq0.false)
    (sym c.some.ensures ∙ c.if-not-some.true))

pub returns : goal.returns
unfolding replaceable present replaced
returns c =
    let a = c.args in
    ap not c.some-2.ensures
    ∙ sym (ap₂ (λ (x y : Bool). x || (y && not (replaced a.number (held a.r)))) (ne_eqb a.number 0 c.if-number-eq0.false)
    (sym c.some.ensures ∙ c.if-not-some.false))
