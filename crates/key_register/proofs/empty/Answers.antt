-- 64 blank entries.
-- Assumes nothing.
use mathlib.Core.Path.{ap}
use lib.ListN.{replicate}
use Rattle.registers.specs.declared.Entry.{Entry}
use Rattle.registers.specs.declared.Register.{Register}
use Rattle.registers.specs.Registers.{empty}
use Rattle.key_register.proofs.empty.Goals as goal

pub returns : goal.returns
unfolding empty
returns c = ap (λ (e : Entry). let r : Register = record { count = 0; entries = replicate 64 e } in r) c.blank-none.ensures
