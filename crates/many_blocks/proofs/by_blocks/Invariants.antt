-- The blocks before `at` are written; those from there on still stand in the destination, and make the rest.
-- Assumes nothing.
use Prim.Native.Nat.{◌-◌, ◌*◌}
use lib.ListN.{length}
use Rattle.forms.specs.Lists.{when}
use Rattle.labyrinth.specs.Lent.{lent}
use Rattle.forms.proofs.EachBlock.{Kept}
use Rattle.many_blocks.proofs.by_blocks.Given as goal

abbrev pub invariant-loop-at : goal.invariant-loop-at
invariant-loop-at l = Kept (lent l.n l.t l.s l.u l.ks) (16 * l.n) (when l.own l.initial.dst l.src) l.mask l.initial.dst l.dst l.at

abbrev pub decreases-loop-at : goal.decreases-loop-at
decreases-loop-at l = length l.src - l.at
