-- At half-block i of the schedule i - 2 iterations are done.
-- Assumes nothing.
use Rattle.std.proofs.Common.{◌*◌}
use Rattle.forms.specs.Words.{each_byte}
use Rattle.field.specs.Substitution.{sub}
use Rattle.field.specs.Mixing.{mix_by}
use Rattle.labyrinth.specs.Working.{both}
use Rattle.labyrinth.proofs.Rounds.{Ran}
use Rattle.matrix_rounds.proofs.rounds.Given as goal

abbrev pub invariant-loop-i : goal.invariant-loop-i
invariant-loop-i l = Ran (λ w. mix_by l.m (each_byte (sub l.s) w)) l.n l.ks (both l.initial.high l.initial.low) (l.i * l.n) (both l.high l.low)
