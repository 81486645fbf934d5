-- Each way out is one of the definition's rules.
-- Assumes nothing.
use mathlib.Core.Path.{refl}
use Rattle.tape_rules.proofs.Cases.{gives, step_room, step_ended, step_empty, step_command}
use Rattle.tape.proofs.step.Goals as goal

pub returns-then-answer-ne65 : goal.returns-then-answer-ne65
returns-then-answer-ne65 c =
    let a = c.args in
    let both = gives a.answer.now (step_room a.t a.rest.now _ c.if-answer-ne65.true) (refl, refl) in record { returned = both.0; bytes = both.1 }

pub returns-then-t : goal.returns-then-t
returns-then-t c =
    let a = c.args in
    let both = gives a.answer.now (step_ended a.t a.rest.now _ c.if-answer-ne65.false c.if-t.true) (c.ends.ensures, refl) in record { returned = both.0; bytes = both.1 }

pub returns-then-rest-eq0 : goal.returns-then-rest-eq0
returns-then-rest-eq0 c =
    let a = c.args in
    let both = gives a.answer.now (step_empty a.t a.rest.now _ c.if-answer-ne65.false c.if-t.false c.if-rest-eq0.true) (c.at_end.ensures.returned, c.at_end.ensures.bytes) in record { returned = both.0; bytes = both.1 }

pub returns : goal.returns
returns c =
    let a = c.args in
    let both = gives a.answer.now (step_command a.t a.rest.now _ c.if-answer-ne65.false c.if-t.false c.if-rest-eq0.false) (c.obey.ensures.returned, c.obey.ensures.bytes) in record { returned = both.0; bytes = both.1 }
