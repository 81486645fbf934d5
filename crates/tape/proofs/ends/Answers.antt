-- The next state is the ended one.
-- Assumes nothing.
use mathlib.Core.Path.{ap}
use Rattle.tape_rules.specs.declared.Tape.{Tape}
use Rattle.tape.proofs.ends.Goals as goal

pub returns : goal.returns
returns c = ap (λ (x : Tape). record { number = 0; taken = c.args.taken; written = 0; next = x }) c.ended.ensures
