-- The two tests in turn.
-- Assumes nothing.
use borrow.Author.Tests.{eq-eqb, ne_eqb}
use Rattle.labyrinth.specs.Working.{lendable}
use Rattle.table_cipher.proofs.is_lendable.Goals as goal

pub returns-then-words-eq256 : goal.returns-then-words-eq256
unfolding lendable
returns-then-words-eq256 c = rw (eq-eqb c.args.words 256 c.if-words-eq256.true)

pub returns-else-words-eq256 : goal.returns-else-words-eq256
unfolding lendable
returns-else-words-eq256 c = rw (ne_eqb c.args.words 256 c.if-words-eq256.false)
