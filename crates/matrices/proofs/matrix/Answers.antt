-- The rows that the closure gives.
-- Assumes nothing.
use Rattle.std.proofs.Common.{rules}
use mathlib.Core.List.{[]}
use Rattle.field.specs.Mixing.{matrix}
use Rattle.arithmetic.proofs.Eight.{of_eight}
use Rattle.matrices.proofs.matrix.Goals as goal

pub returns : goal.returns
unfolding matrix
returns c = of_eight _ [] _ c.from_fn.ensures.items.long (search rules)
