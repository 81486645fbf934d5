-- Six rounds.
-- Assumes nothing.
use mathlib.Core.List.{◌++◌}
use Prim.Native.Nat.{◌-◌}
use lib.ListN.{length}
use Rattle.labyrinth.specs.Lent.{lent}
use Rattle.key_wrap_steps.proofs.Rounds.{Wrapped}
use Rattle.key_wrap_steps.proofs.wrap_rounds.Given as goal

abbrev pub invariant-loop-round : goal.invariant-loop-round
invariant-loop-round l = Wrapped (lent 1 l.t l.s l.u l.ks) (l.initial.a ++ l.initial.r) (length l.initial.r) l.a l.r l.done l.round

abbrev pub decreases-loop-round : goal.decreases-loop-round
decreases-loop-round l = 6 - l.round
