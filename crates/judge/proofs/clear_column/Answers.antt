-- The rows that the closure gives.
-- Assumes nothing.
use Rattle.std.proofs.Common.{rules}
use mathlib.Core.List.{[]}
use Rattle.arithmetic.proofs.Eight.{of_eight}
use Rattle.judge.specs.Elimination.{cleared}
use Rattle.judge.proofs.clear_column.Goals as goal

pub returns : goal.returns
unfolding cleared
returns c = of_eight _ [] _ c.map.ensures.items.long (search rules)
