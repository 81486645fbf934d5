-- Turn by turn, the commands counted and those to come make the whole count.
-- Assumes nothing.
use Prim.Native.Nat.{◌-◌}
use Rattle.catalogue.proofs.Catalogues.{Counting}
use Rattle.catalogue.proofs.count_blocks.Given as goal

abbrev pub invariant-loop-count : goal.invariant-loop-count
invariant-loop-count l = Counting l.bytes l.from l.count

abbrev pub decreases-loop-count : goal.decreases-loop-count
decreases-loop-count l = 4096 - l.count
