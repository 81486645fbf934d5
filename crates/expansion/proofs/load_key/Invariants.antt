-- After i turns the first i words stand, and zeros behind them.
-- Assumes nothing.
use Rattle.std.proofs.Common.{◌≡◌}
use Rattle.forms.specs.Words.{words}
use Rattle.labyrinth.specs.Refusals.{padded}
use Rattle.expansion.proofs.load_key.Given as goal

abbrev pub invariant-loop-i : goal.invariant-loop-i
invariant-loop-i l = l.w ≡ padded (words l.i l.key)
