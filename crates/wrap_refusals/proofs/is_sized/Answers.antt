-- The three tests in turn.
-- Assumes nothing.
use Prim.Native.Nat.{◌%◌}
use borrow.Author.Tests.{eq-eqb, ne_eqb, le-leb, lt-leb}
use Rattle.modes.specs.Refusals.{sized}
use Rattle.wrap_refusals.proofs.is_sized.Goals as goal

pub returns-then-low-count : goal.returns-then-low-count
unfolding sized
returns-then-low-count c = let a = c.args in rw (eq-eqb (a.count % 8) 0 c.if-count-eq0.true, le-leb a.low a.count c.if-low-count.true)

pub returns-else-low-count : goal.returns-else-low-count
unfolding sized
returns-else-low-count c = let a = c.args in rw (eq-eqb (a.count % 8) 0 c.if-count-eq0.true, lt-leb a.low a.count c.if-low-count.false)

pub returns-else-count-eq0 : goal.returns-else-count-eq0
unfolding sized
returns-else-count-eq0 c = rw (ne_eqb (c.args.count % 8) 0 c.if-count-eq0.false)
