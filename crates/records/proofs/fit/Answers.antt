-- The store's length, then the working key's.
-- Assumes nothing.
use borrow.Author.Tests.{eq-eqb, ne_eqb}
use Rattle.records.proofs.fit.Goals as goal

pub returns-then-other : goal.returns-then-other
returns-then-other c = rw (ne_eqb _ 1072 c.if-other.true)

pub returns : goal.returns
returns c = rw (eq-eqb _ 1072 c.if-other.false)
