-- Zeros.
-- Assumes nothing.
use mathlib.Core.Path.{refl}
use Rattle.registers.specs.Registers.{blank}
use Rattle.key_register.proofs.blank.Goals as goal

pub returns : goal.returns
unfolding blank
returns c = refl
