-- The block so far is chained with the next; with keep, those before `at` are written.
-- Assumes nothing.
use Prim.Native.Nat.{◌-◌, ◌*◌}
use lib.ListN.{length}
use Rattle.forms.proofs.Chains.{Linked}
use Rattle.labyrinth.specs.Groups.{wide_lent}
use Rattle.chains.proofs.by_wide_links.Given as goal

abbrev pub invariant-loop-at : goal.invariant-loop-at
invariant-loop-at l = Linked (wide_lent l.n l.t l.s l.u l.ks) (16 * l.n) l.keep l.initial.c l.src l.initial.dst l.c l.dst l.at

abbrev pub decreases-loop-at : goal.decreases-loop-at
decreases-loop-at l = length l.src - l.at
