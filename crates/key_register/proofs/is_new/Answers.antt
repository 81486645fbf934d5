-- By its tests, in order.
-- Assumes nothing.
use mathlib.Core.Path.{sym, ap, ◌∙◌}
use mathlib.Core.Bool.{Bool, not, ◌||◌}
use borrow.Author.Tests.{eq-eqb, ne_eqb}
use Rattle.registers.specs.Registers.{held, present, new}
use Rattle.key_register.proofs.is_new.Goals as goal

pub returns-then-number-eq0 : goal.returns-then-number-eq0
unfolding new
returns-then-number-eq0 c = let a = c.args in sym (ap (λ (b : Bool). not (b || present a.number (held a.r))) (eq-eqb a.number 0 c.if-number-eq0.true))

pub returns : goal.returns
unfolding new present
returns c =
    let a = c.args in
    ap not c.some.ensures ∙ sym (ap (λ (b : Bool). not (b || present a.number (held a.r))) (ne_eqb a.number 0 c.if-number-eq0.false))
