-- A step up to a place, and the place goes back.
-- Assumes nothing.
use mathlib.Core.List.{◌++◌}
use Prim.Native.Nat.{◌-◌}
use lib.ListN.{length}
use Rattle.labyrinth.specs.Lent.{lent}
use Rattle.modes.specs.KeyWrap.{unwrap_steps}
use Rattle.key_wrap_steps.proofs.Rounds.{Unwrapping}
use Rattle.key_wrap_steps.proofs.unwrap_round.Given as goal

abbrev pub invariant-loop-end : goal.invariant-loop-end
invariant-loop-end l = Unwrapping (lent 1 l.t l.s l.u l.ks) (unwrap_steps (lent 1 l.t l.s l.u l.ks) l.left (l.initial.a ++ l.initial.r)) l.left (length l.initial.r) l.a l.r l.number l.end

abbrev pub decreases-loop-end : goal.decreases-loop-end
decreases-loop-end l = l.end
