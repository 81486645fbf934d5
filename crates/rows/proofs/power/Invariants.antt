-- After some turns the word is mixed as often.
-- Assumes nothing.
use mathlib.Core.Path.{◌≡◌}
use Rattle.forms.specs.Lists.{iterate}
use Rattle.field.specs.Mixing.{mix}
use Rattle.rows.proofs.power.Given as goal

abbrev pub invariant-loop : goal.invariant-loop
invariant-loop l = l.w ≡ iterate l.counter (mix l.g) 1
