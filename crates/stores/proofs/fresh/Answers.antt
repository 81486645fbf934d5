-- The published set and three of zeros.
-- Assumes nothing.
use mathlib.Core.Path.{ap₂}
use mathlib.Core.List.{[], ◌∷◌}
use Rattle.sets.specs.declared.Set.{Set}
use Rattle.sets.specs.declared.Store.{Store}
use Rattle.sets.specs.Sets.{fresh_store}
use Rattle.stores.proofs.fresh.Goals as goal

made : Set → Set → Store
made p b = record { sets = p ∷ b ∷ b ∷ b ∷ []; taken = 4 ∷ 4 ∷ [] }

pub returns : goal.returns
unfolding fresh_store made
returns c = ap₂ made c.published-p.ensures c.blank-b.ensures
