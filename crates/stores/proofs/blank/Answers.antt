-- Zeros.
-- Assumes nothing.
use mathlib.Core.Path.{refl}
use Rattle.sets.specs.Sets.{blank}
use Rattle.stores.proofs.blank.Goals as goal

pub returns : goal.returns
unfolding blank
returns c = refl
