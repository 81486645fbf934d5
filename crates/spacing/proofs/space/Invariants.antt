-- After i turns the first i bytes are there, among zeros.
-- Assumes nothing.
use Rattle.spacing.proofs.Spacing.{Spacing}
use Rattle.spacing.proofs.space.Given as goal

abbrev pub invariant-loop-i : goal.invariant-loop-i
invariant-loop-i l = Spacing l.s l.i l.d
