-- A step at a place, and the place goes on.
-- Assumes nothing.
use mathlib.Core.List.{◌++◌}
use Prim.Native.Nat.{◌+◌, ◌-◌}
use lib.ListN.{length}
use Rattle.labyrinth.specs.Lent.{lent}
use Rattle.key_wrap_steps.proofs.Rounds.{Wrapping}
use Rattle.key_wrap_steps.proofs.wrap_round.Given as goal

abbrev pub invariant-loop-at : goal.invariant-loop-at
invariant-loop-at l = Wrapping (lent 1 l.t l.s l.u l.ks) (l.initial.a ++ l.initial.r) l.done (length l.initial.r) l.a l.r l.number l.at

abbrev pub decreases-loop-at : goal.decreases-loop-at
decreases-loop-at l = length l.initial.r - l.at
