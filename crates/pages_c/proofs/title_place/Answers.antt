-- By the test.
-- Assumes nothing.
use borrow.Author.Tests.{eq-eqb, ne_eqb}
use Rattle.pages_c.specs.LentPages.{title_at}
use Rattle.pages_c.proofs.title_place.Goals as goal

pub returns-then-number-eq0 : goal.returns-then-number-eq0
unfolding title_at
returns-then-number-eq0 c = rw (eq-eqb _ 0 c.if-number-eq0.true)

pub returns : goal.returns
unfolding title_at
returns c = rw (ne_eqb _ 0 c.if-number-eq0.false)
