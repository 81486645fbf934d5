-- Six rounds, from the last to the first.
-- Assumes nothing.
use mathlib.Core.List.{◌++◌}
use lib.ListN.{length}
use Rattle.labyrinth.specs.Lent.{lent}
use Rattle.modes.specs.KeyWrap.{W⁻¹}
use Rattle.key_wrap_steps.proofs.Rounds.{Unwrapped}
use Rattle.key_wrap_steps.proofs.unwrap_rounds.Given as goal

abbrev pub invariant-loop-round : goal.invariant-loop-round
invariant-loop-round l = Unwrapped (lent 1 l.t l.s l.u l.ks) (W⁻¹ (lent 1 l.t l.s l.u l.ks) (l.initial.a ++ l.initial.r)) (length l.initial.r) l.a l.r l.left l.round

abbrev pub decreases-loop-round : goal.decreases-loop-round
decreases-loop-round l = l.round
