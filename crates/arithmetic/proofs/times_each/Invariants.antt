-- As `times` goes, with a word of eight bytes in the byte's place, to the eighth turn.
-- Assumes nothing.
use Rattle.field.proofs.Scale.{shift_each}
use Rattle.arithmetic.proofs.Turns.{Turned}
use Rattle.arithmetic.proofs.times_each.Given as goal

abbrev pub invariant-loop : goal.invariant-loop
invariant-loop l = Turned (shift_each l.w) l.c l.counter l.value l.x l.y
