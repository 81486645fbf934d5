-- The four ends of the line one by one, and the rounds' numbers between them.
-- Assumes nothing.
use mathlib.Core.Path.{sym, ap, ◌∙◌}
use mathlib.Core.Bool.{Bool}
use mathlib.Core.List.{List}
use Prim.Native.Nat.{ℕ, ◌-◌}
use native.Mathlib.Omega.{arith}
use lib.ListN.{get_or}
use Rattle.labyrinth.specs.Keys.{order}
use Rattle.labyrinth.specs.Working.{use_order}
use Rattle.labyrinth.proofs.Schedule.{order_fore, order_back}
use Rattle.schedule.proofs.subkey.Goals as goal

pub returns-then-back : goal.returns-then-back
unfolding use_order order
returns-then-back c = rw (c.in-0.is, c.if-back.true)

pub returns-else-back : goal.returns-else-back
unfolding use_order order
returns-else-back c = rw (c.in-0.is, c.if-back.false)

pub returns-then-back-2 : goal.returns-then-back-2
unfolding use_order order
returns-then-back-2 c = rw (c.in-1.is, c.if-back-2.true)

pub returns-else-back-2 : goal.returns-else-back-2
unfolding use_order order
returns-else-back-2 c = rw (c.in-1.is, c.if-back-2.false)

pub returns-then-back-3 : goal.returns-then-back-3
unfolding use_order order
returns-then-back-3 c = rw (c.in-18.is, c.if-back-3.true)

pub returns-else-back-3 : goal.returns-else-back-3
unfolding use_order order
returns-else-back-3 c = rw (c.in-18.is, c.if-back-3.false)

pub returns-then-back-4 : goal.returns-then-back-4
unfolding use_order order
returns-then-back-4 c = rw (c.in-19.is, c.if-back-4.true)

pub returns-else-back-4 : goal.returns-else-back-4
unfolding use_order order
returns-else-back-4 c = rw (c.in-19.is, c.if-back-4.false)

pub returns-then-back-5 : goal.returns-then-back-5
returns-then-back-5 c =
    let a = c.args in
    ap (λ (o : List ℕ). get_or o (17 - a.i) 0) c.requires.1 ∙ order_back a.i (omega arith) (omega arith) ∙ ap (λ (b : Bool). get_or (use_order b) a.i 0) (sym c.if-back-5.true)

pub returns-else-back-5 : goal.returns-else-back-5
returns-else-back-5 c =
    let a = c.args in
    ap (λ (o : List ℕ). get_or o (a.i - 2) 0) c.requires.1 ∙ order_fore a.i (omega arith) (omega arith) ∙ ap (λ (b : Bool). get_or (use_order b) a.i 0) (sym c.if-back-5.false)
