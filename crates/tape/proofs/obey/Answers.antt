-- Each arm is one of the definition's commands.
-- Assumes nothing.
use mathlib.Core.Path.{refl, sym, ap, ◌∙◌}
use lib.ListN.{get_or}
use native.Mathlib.Omega.{arith}
use Rattle.tape_rules.specs.declared.Tape.{Tape}
use Rattle.tape_rules.specs.Steps.{refuses}
use Rattle.tape_rules.proofs.Cases.{gives, command_0, command_1, command_3, command_4, command_5, command_other}
use Rattle.tape.proofs.obey.Goals as goal

pub returns-in-0 : goal.returns-in-0
returns-in-0 c =
    let a = c.args in
    let both = gives a.answer.now (command_0 a.t a.rest.now c.in-0.is) (c.ends.ensures, refl) in record { returned = both.0; bytes = both.1 }

pub returns-in-1 : goal.returns-in-1
returns-in-1 c =
    let a = c.args in
    let both = gives a.answer.now (command_1 a.t a.rest.now c.in-1.is) (c.set_key.ensures.returned, c.set_key.ensures.bytes) in record { returned = both.0; bytes = both.1 }

pub returns-in-3 : goal.returns-in-3
returns-in-3 c =
    let a = c.args in
    let both = gives a.answer.now (command_3 a.t a.rest.now c.in-3.is) (c.map_block.ensures.returned, c.map_block.ensures.bytes) in record { returned = both.0; bytes = both.1 }

pub returns-in-4 : goal.returns-in-4
returns-in-4 c =
    let a = c.args in
    let both = gives a.answer.now (command_4 a.t a.rest.now c.in-4.is) (c.map_block-in-4.ensures.returned, c.map_block-in-4.ensures.bytes) in record { returned = both.0; bytes = both.1 }

pub returns-in-5 : goal.returns-in-5
returns-in-5 c =
    let a = c.args in
    let both = gives a.answer.now (command_5 a.t a.rest.now c.in-5.is) (c.mix_word.ensures.returned, c.mix_word.ensures.bytes) in record { returned = both.0; bytes = both.1 }

pub returns-in_default : goal.returns-in_default
returns-in_default c =
    let a = c.args in
    let both = gives a.answer.now
    (command_other a.t a.rest.now {c = get_or a.rest.now 0 0} (omega arith) (omega arith) (omega arith) (omega arith) (omega arith)
    ∙ ap (λ (x : Tape). refuses x 7 1) (sym c.ended.ensures))
    (c.say_number.ensures.returned, c.say_number.ensures.bytes) in record { returned = both.0; bytes = both.1 }
