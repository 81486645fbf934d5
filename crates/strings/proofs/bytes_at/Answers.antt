-- What stands there is laid over zeros; from the end on nothing does.
-- Assumes nothing.
use Rattle.strings.proofs.Reading.{laid_from, nothing_from}
use Rattle.strings.proofs.bytes_at.Goals as goal

pub returns-then-at-b : goal.returns-then-at-b
returns-then-at-b g c = laid_from g.row.N c.args.at c.args.b.now c.copy_into.ensures

pub returns-else-at-b : goal.returns-else-at-b
returns-else-at-b g c = nothing_from g.row.N c.args.at c.args.b.now c.if-at-b.false
