-- The checks in their order.
-- Assumes nothing.
use mathlib.Core.Path.{sym}
use Prim.Native.Nat.{◌%◌}
use borrow.Author.Tests.{eq-eqb, ne_eqb, lt-leb}
use Rattle.key_wrap_steps.specs.Steps.{steps_refusal}
use Rattle.key_wrap_steps.proofs.Refusals.{steps_none}
use Rattle.key_wrap_steps.proofs.steps_refusal.Goals as goal

pub returns-then-first-ne8 : goal.returns-then-first-ne8
unfolding steps_refusal
returns-then-first-ne8 c = rw (ne_eqb _ 8 c.if-first-ne8.true)

pub returns-then-rest-ne0 : goal.returns-then-rest-ne0
unfolding steps_refusal
returns-then-rest-ne0 c = rw (eq-eqb _ 8 c.if-first-ne8.false, ne_eqb _ 0 c.if-rest-ne0.true)

pub returns-then-rest-gt128 : goal.returns-then-rest-gt128
unfolding steps_refusal
returns-then-rest-gt128 c =
    let a = c.args in
    rw (eq-eqb a.first 8 c.if-first-ne8.false, eq-eqb (a.rest % 8) 0 c.if-rest-ne0.false, lt-leb a.rest 128 c.if-rest-gt128.true)

pub returns : goal.returns
returns c = sym (steps_none _ _ c.if-first-ne8.false c.if-rest-ne0.false c.if-rest-gt128.false)
