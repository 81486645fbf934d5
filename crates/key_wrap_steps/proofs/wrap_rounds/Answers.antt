-- Six rounds.
-- Assumes nothing.
use Prim.Native.Nat.{◌-◌}
use native.Mathlib.Omega.{arith}
use Rattle.key_wrap_steps.proofs.Rounds.{wrapped_first, wrapped_room, wrapped_next, wrapped_last}
use Rattle.key_wrap_steps.proofs.wrap_rounds.Goals as goal

pub overflow_cast-count : goal.overflow_cast-count
overflow_cast-count c = omega (arith, c.requires.2)

pub loop-round-init : goal.loop-round-init
loop-round-init c = wrapped_first _ _ _ c.requires.0

pub wrap_round-requires : goal.wrap_round-requires
wrap_round-requires c =
    let v = c.loop-round.invariant in
    (v.fits, omega (arith, v.same, c.requires.1), omega (arith, v.same, wrapped_room _ _ _ v c.loop-round-test.true c.requires.2))

pub overflow_add-done : goal.overflow_add-done
overflow_add-done c = omega (arith, wrapped_room _ _ _ c.loop-round.invariant c.loop-round-test.true c.requires.2)

pub overflow_add-round : goal.overflow_add-round
overflow_add-round c = omega (arith, c.loop-round-test.true)

pub loop-round-smaller : goal.loop-round-smaller
loop-round-smaller c = omega (arith, c.loop-round-test.true)

pub loop-round-preserved : goal.loop-round-preserved
loop-round-preserved c =
    let call = c.wrap_round in
    wrapped_next _ _ _ _ _ _ _ c.loop-round.invariant c.loop-round-test.true call.auto.a call.auto.r call.ensures

pub returns : goal.returns
returns c = wrapped_last _ c.args.a.now c.args.r.now _ _ _ _ c.requires.0 c.loop-round.invariant c.loop-round-test.false
