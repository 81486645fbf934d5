-- The places are laid from the last to the first.
-- Assumes nothing.
use Rattle.substitutions.proofs.Places.{Laid, entries}
use Rattle.substitutions.proofs.inverse.Given as goal

abbrev pub invariant-loop-at : goal.invariant-loop-at
invariant-loop-at l = Laid (entries l.s) l.at l.r
