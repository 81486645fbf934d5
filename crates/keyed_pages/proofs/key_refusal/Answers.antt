-- n apart from 1, and 1.
-- Assumes nothing.
use borrow.Author.Tests.{eq-eqb, ne_eqb}
use Rattle.keyed_pages.proofs.key_refusal.Goals as goal

pub returns-then-other : goal.returns-then-other
returns-then-other c = rw (ne_eqb _ 1 c.if-other.true) c.under_key.ensures

pub returns : goal.returns
returns c = rw (eq-eqb _ 1 c.if-other.false) c.under_key-2.ensures
