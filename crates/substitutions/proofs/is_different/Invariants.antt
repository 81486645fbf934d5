-- The length, then byte by byte from the last: one that was marked before stands twice.
-- Assumes nothing.
use Rattle.substitutions.proofs.Seen.{Seen}
use Rattle.substitutions.proofs.is_different.Given as goal

abbrev pub invariant-loop-i : goal.invariant-loop-i
invariant-loop-i l = Seen l.s l.i l.seen
