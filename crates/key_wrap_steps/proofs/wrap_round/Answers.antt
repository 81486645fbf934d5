-- A step at a place, and the place goes on.
-- Assumes nothing.
use Prim.Native.Nat.{◌+◌, ◌-◌, ◌≤◌}
use native.Mathlib.Omega.{arith}
use lib.ListN.{length}
use Rattle.forms.proofs.Parts.{part_length}
use Rattle.key_wrap_steps.proofs.Rounds.{wrap_first, wrap_room, wrap_next, wrap_last}
use Rattle.key_wrap_steps.proofs.wrap_round.Goals as goal
use Rattle.key_wrap_steps.proofs.wrap_round.Goals.{In-loop-at}

pub loop-at-init : goal.loop-at-init
loop-at-init c = wrap_first _ _ _ _ c.requires.0

-- a semiblock is left
room : (c : In-loop-at) → c.loop-at.at + 8 ≤ length c.args.r.now
room c = wrap_room _ _ _ _ c.requires.1 c.loop-at.invariant (omega (arith, c.loop-at-test.true, c.loop-at.invariant.same))

pub overflow_add-end : goal.overflow_add-end
overflow_add-end c = omega (arith, room c)

pub overflow_add-number : goal.overflow_add-number
overflow_add-number c = omega (arith, room c, c.loop-at.invariant.count, c.requires.2)

pub slice_bounds-wrap_step-end : goal.slice_bounds-wrap_step-end
slice_bounds-wrap_step-end c = omega (arith, room (goal.at.slice_bounds-wrap_step-end c).In-loop-at, c.loop-at.invariant.same)

pub wrap_step-requires : goal.wrap_step-requires
wrap_step-requires c =
    let at = c.loop-at.at in
    (c.loop-at.invariant.fits, omega (arith, part_length c.loop-at.r at (at + 8) (omega arith) (omega (arith, room (goal.at.wrap_step-requires c).In-loop-at, c.loop-at.invariant.same))))

pub loop-at-smaller : goal.loop-at-smaller
loop-at-smaller c = omega (arith, room (goal.at.loop-at-smaller c).In-loop-at)

pub loop-at-preserved : goal.loop-at-preserved
loop-at-preserved c =
    let call = c.wrap_step in
    wrap_next _ _ _ _ c.requires.1 _ _ _ _ c.loop-at.invariant (omega (arith, c.loop-at-test.true, c.loop-at.invariant.same))
    call.auto.a call.auto.r call.ensures.first call.ensures.second

pub returns : goal.returns
returns c = wrap_last _ _ _ _ c.requires.1 _ _ _ _ c.loop-at.invariant (omega (arith, c.loop-at-test.false, c.loop-at.invariant.same))
