-- The written bytes stand at the front of the answer buffer, and go to the front of the answers.
-- Assumes nothing.
use mathlib.Core.Path.{sym}
use native.Mathlib.Omega.{arith}
use lib.ListN.{length-take}
use Rattle.tape_rules.specs.Steps.{step}
use Rattle.tape_rules.proofs.Bounds.{one_if_top, step_bounded}
use Rattle.tape_run.proofs.Turns.{Answered_in, answered_in, copied}
use Rattle.tape_run.proofs.turn.Goals as goal
use Rattle.tape_run.proofs.turn.Goals.{After-step-s}

stepped : (c : After-step-s) → let a = c.args in Answered_in (step a.t a.rest.now 65) c.step-s.result c.step-s.new.answer
stepped c = let a = c.args in answered_in a.t a.rest.now c.blank_answer-answer.result c.blank_answer-answer.ensures (c.step-s.ensures.returned, c.step-s.ensures.bytes)

pub slice_bounds-answer-end : goal.slice_bounds-answer-end
slice_bounds-answer-end c = omega (arith, (stepped (goal.at.slice_bounds-answer-end c).After-step-s).long, length-take c.step-s.result.written c.step-s.new.answer)

pub slice_bounds-copy_into-end : goal.slice_bounds-copy_into-end
slice_bounds-copy_into-end c = sym (stepped (goal.at.slice_bounds-copy_into-end c).After-step-s).long

pub returns : goal.returns
returns c =
    let a = c.args in
    let b = step_bounded a.t a.rest.now 65 in
    let p = c.requires in
    let o = one_if_top (step a.t a.rest.now 65).next.ended in
    record { returned = (stepped (goal.at.returns c).After-step-s).returns; bytes = copied a.answers.now (step a.t a.rest.now 65).written (stepped (goal.at.returns c).After-step-s).front (omega arith) c.copy_into.ensures }
