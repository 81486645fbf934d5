-- What stands before `at` is opened, the chain holds the sealed block before it, and the rest is sealed still.
-- Assumes nothing.
use Prim.Native.Nat.{◌-◌, ◌*◌}
use lib.ListN.{length}
use Rattle.labyrinth.specs.Lent.{lent}
use Rattle.modes.specs.Cbc.{cbc_open}
use Rattle.cbc_in_place.proofs.Stretches.{Opened}
use Rattle.cbc_in_place.proofs.open_stretches.Given as goal

abbrev pub invariant-loop-at : goal.invariant-loop-at
invariant-loop-at l = Opened (lent l.n l.t l.s l.u l.ks) (16 * l.n) (cbc_open (lent l.n l.t l.s l.u l.ks) (16 * l.n) l.initial.chain l.initial.d) l.chain l.d (length l.initial.d) l.at

abbrev pub decreases-loop-at : goal.decreases-loop-at
decreases-loop-at l = length l.initial.d - l.at
