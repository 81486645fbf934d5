-- After some turns the value is the XOR over as many low bits of b, x is a times that power of x, and y is what is left of b.
-- Assumes nothing.
use mathlib.Core.Path.{◌≡◌}
use Rattle.field.specs.Field.{shift}
use Rattle.arithmetic.proofs.Turns.{Turned}
use Rattle.arithmetic.proofs.times.Given as goal

abbrev pub invariant-loop : goal.invariant-loop
invariant-loop l = (l.turns ≡ l.counter) × Turned (shift l.a) l.b l.turns l.value l.x l.y
