-- Table 1 and the row.
-- Assumes nothing.
use mathlib.Core.Path.{ap₂}
use mathlib.Core.List.{List}
use Prim.Native.Nat.{ℕ}
use Rattle.sets.specs.declared.Set.{Set}
use Rattle.sets.specs.Sets.{published}
use Rattle.stores.proofs.published.Goals as goal

made : List ℕ → List ℕ → Set
made s g = record { substitution = s; row = g }

pub returns : goal.returns
unfolding published made
returns c = ap₂ made c.sbox-s.ensures c.row-g.ensures
