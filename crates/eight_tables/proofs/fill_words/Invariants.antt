-- After i turns the first i words of each table are there.
-- Assumes nothing.
use Rattle.eight_tables.proofs.Making.{Filling}
use Rattle.eight_tables.proofs.fill_words.Given as goal

abbrev pub invariant-loop-i : goal.invariant-loop-i
invariant-loop-i l = Filling l.t l.i l.w
