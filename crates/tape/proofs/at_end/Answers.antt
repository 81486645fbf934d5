-- The number alone, and the next state is the ended one.
-- Assumes nothing.
use mathlib.Core.Path.{sym, ap}
use Rattle.tape_rules.specs.declared.Tape.{Tape}
use Rattle.tape_rules.specs.Steps.{refuses}
use Rattle.tape_rules.proofs.Cases.{gives}
use Rattle.tape.proofs.at_end.Goals as goal

pub returns : goal.returns
returns c =
    let a = c.args in
    let both = gives a.answer.now (ap (λ (x : Tape). refuses x 8 0) (sym c.ended.ensures)) (c.say_number.ensures.returned, c.say_number.ensures.bytes) in record { returned = both.0; bytes = both.1 }
