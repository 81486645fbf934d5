-- The entries that the closure gives.
-- Assumes nothing.
use Rattle.std.proofs.Common.{rules}
use Rattle.field.specs.Mixing.{element}
use Rattle.arithmetic.proofs.Eight.{of_eight}
use Rattle.matrices.proofs.fn.matrix.from_fn.Goals as goal

pub returns : goal.returns
unfolding element
returns c = of_eight _ 0 _ c.from_fn.ensures.items.long (search rules)
