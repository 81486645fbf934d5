-- The first i groups are written; those from there on still stand in the destination, and make the rest.
-- Assumes nothing.
use Prim.Native.Nat.{◌*◌}
use Rattle.forms.specs.Lists.{when}
use Rattle.forms.proofs.EachBlock.{Kept}
use Rattle.labyrinth.specs.Groups.{wide_lent}
use Rattle.groups.proofs.each_group.Given as goal

abbrev pub invariant-loop-i : goal.invariant-loop-i
invariant-loop-i l = Kept (wide_lent l.n l.t l.s l.u l.ks) (16 * l.n) (when l.own l.initial.dst l.src) l.mask l.initial.dst l.dst (64 * l.i)
