-- Turn by turn, what was done and what is to come make the tape's answers.
-- Assumes nothing.
use mathlib.Core.Path.{◌≡◌}
use mathlib.Core.Bool.{not}
use Prim.Native.Nat.{◌+◌, ◌-◌}
use lib.ListN.{length}
use Rattle.tape_rules.proofs.Bounds.{one_if}
use Rattle.tape_run.proofs.Turns.{Turning}
use Rattle.tape_run.proofs.work.Given as goal

abbrev pub invariant-loop-going : goal.invariant-loop-going
invariant-loop-going l = Turning l.tape l.initial.answers l.t l.answers l.at l.put × (l.going ≡ not l.t.ended)

abbrev pub decreases-loop-going : goal.decreases-loop-going
decreases-loop-going l = length l.tape - l.at + one_if l.going
