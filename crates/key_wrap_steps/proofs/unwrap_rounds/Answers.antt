-- Six rounds, from the last to the first.
-- Assumes nothing.
use native.Mathlib.Omega.{arith}
use Rattle.key_wrap_steps.proofs.Rounds.{unwrapped_first, unwrapped_room, unwrapped_next, unwrapped_last}
use Rattle.key_wrap_steps.proofs.unwrap_rounds.Goals as goal

pub overflow_cast-count : goal.overflow_cast-count
overflow_cast-count c = omega (arith, c.requires.2)

pub overflow_mul-left : goal.overflow_mul-left
overflow_mul-left c = omega (arith, c.requires.2)

pub loop-round-init : goal.loop-round-init
loop-round-init c = unwrapped_first _ _ _ c.requires.0

pub unwrap_round-requires : goal.unwrap_round-requires
unwrap_round-requires c =
    let v = c.loop-round.invariant in
    (v.fits, omega (arith, v.same, c.requires.1), omega (arith, v.same, unwrapped_room _ _ _ v c.loop-round-test.true))

pub overflow_sub-left : goal.overflow_sub-left
overflow_sub-left c = omega (arith, unwrapped_room _ _ _ c.loop-round.invariant c.loop-round-test.true)

pub overflow_sub-round : goal.overflow_sub-round
overflow_sub-round c = omega (arith, c.loop-round-test.true)

pub loop-round-smaller : goal.loop-round-smaller
loop-round-smaller c = omega (arith, c.loop-round-test.true)

pub loop-round-preserved : goal.loop-round-preserved
loop-round-preserved c =
    let call = c.unwrap_round in
    unwrapped_next _ _ _ _ _ _ _ c.loop-round.invariant c.loop-round-test.true call.auto.a call.auto.r call.ensures

pub returns : goal.returns
returns c = unwrapped_last _ _ _ _ _ _ _ c.loop-round.invariant c.loop-round-test.false
