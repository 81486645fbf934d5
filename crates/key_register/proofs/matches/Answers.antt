-- By the test of 0.
-- Assumes nothing.
use mathlib.Core.Path.{sym, ap}
use mathlib.Core.Bool.{Bool, not, ◌&&◌}
use borrow.Author.Tests.{eq-eqb, ne_eqb}
use lib.Dec.{eqb}
use Rattle.registers.specs.Registers.{matches}
use Rattle.key_register.proofs.matches.Goals as goal

pub returns-then-number-eq0 : goal.returns-then-number-eq0
unfolding matches
returns-then-number-eq0 c = let a = c.args in sym (ap (λ (b : Bool). not b && eqb a.number a.other) (eq-eqb a.number 0 c.if-number-eq0.true))

pub returns : goal.returns
unfolding matches
returns c = let a = c.args in sym (ap (λ (b : Bool). not b && eqb a.number a.other) (ne_eqb a.number 0 c.if-number-eq0.false))
