-- The two tests in turn.
-- Assumes nothing.
use Prim.Native.Nat.{◌%◌}
use borrow.Author.Tests.{eq-eqb, ne_eqb}
use Rattle.keyed_pages.proofs.is_body.Goals as goal

pub returns-then-body-eq0 : goal.returns-then-body-eq0
returns-then-body-eq0 c = rw (eq-eqb (c.args.body % 16) 0 c.if-body-eq0.true)

pub returns-else-body-eq0 : goal.returns-else-body-eq0
returns-else-body-eq0 c = rw (ne_eqb (c.args.body % 16) 0 c.if-body-eq0.false)
