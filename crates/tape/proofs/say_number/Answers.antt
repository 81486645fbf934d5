-- One byte at the front.
-- Assumes nothing.
use mathlib.Core.Path.{refl}
use Rattle.tape_rules.proofs.Cases.{number_set}
use Rattle.tape.proofs.say_number.Goals as goal

pub returns : goal.returns
returns c = record { returned = refl; bytes = number_set c.args.answer.now c.args.number c.requires }
