-- A step up to a place, and the place goes back.
-- Assumes nothing.
use mathlib.Core.Path.{◌∙◌}
use Prim.Native.Nat.{◌-◌, ◌≤◌}
use native.Mathlib.Omega.{arith}
use Rattle.forms.proofs.Parts.{part_length}
use Rattle.key_wrap_steps.proofs.Rounds.{unwrap_first, unwrap_room, unwrap_count, unwrap_next, unwrap_last}
use Rattle.key_wrap_steps.proofs.unwrap_round.Goals as goal
use Rattle.key_wrap_steps.proofs.unwrap_round.Goals.{In-loop-end}

pub loop-end-init : goal.loop-end-init
loop-end-init c = unwrap_first _ _ _ _ c.requires.0 c.requires.1

-- a semiblock is left, and a step
room : (c : In-loop-end) → 8 ≤ c.loop-end.end
room c = unwrap_room _ _ _ _ c.loop-end.invariant c.loop-end-test.true

step_left : (c : In-loop-end) → 1 ≤ c.loop-end.number
step_left c = unwrap_count _ _ _ _ c.loop-end.invariant c.requires.2 c.loop-end-test.true

pub overflow_sub-at : goal.overflow_sub-at
overflow_sub-at c = omega (arith, room c)

pub slice_bounds-unwrap_step-count : goal.slice_bounds-unwrap_step-count
slice_bounds-unwrap_step-count c = omega (arith, room (goal.at.slice_bounds-unwrap_step-count c).In-loop-end)

pub slice_bounds-unwrap_step-start : goal.slice_bounds-unwrap_step-start
slice_bounds-unwrap_step-start c = omega (arith, room (goal.at.slice_bounds-unwrap_step-start c).In-loop-end)

pub slice_bounds-unwrap_step-end : goal.slice_bounds-unwrap_step-end
slice_bounds-unwrap_step-end c = omega (arith, room (goal.at.slice_bounds-unwrap_step-end c).In-loop-end, c.loop-end.invariant.same, c.loop-end.invariant.within)

pub unwrap_step-requires : goal.unwrap_step-requires
unwrap_step-requires c =
    let end = c.loop-end.end in
    let v = c.loop-end.invariant in
    (v.fits, part_length c.loop-end.r (end - 8) end (omega arith) (omega (arith, v.same, v.within)) ∙ omega (arith, room (goal.at.unwrap_step-requires c).In-loop-end))

pub overflow_sub-number : goal.overflow_sub-number
overflow_sub-number c = omega (arith, step_left (goal.at.overflow_sub-number c).In-loop-end)

pub loop-end-smaller : goal.loop-end-smaller
loop-end-smaller c = omega (arith, room (goal.at.loop-end-smaller c).In-loop-end)

pub loop-end-preserved : goal.loop-end-preserved
loop-end-preserved c =
    let call = c.unwrap_step in
    unwrap_next _ _ _ _ _ _ _ _ c.loop-end.invariant c.requires.2 c.loop-end-test.true
    call.auto.a call.auto.r call.ensures.first call.ensures.second

pub returns : goal.returns
returns c = unwrap_last _ _ _ _ _ _ _ _ c.loop-end.invariant c.loop-end-test.false
