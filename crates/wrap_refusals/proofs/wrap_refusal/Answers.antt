-- n and the source first, then the destination.
-- Assumes nothing.
use native.Mathlib.Omega.{arith}
use Rattle.modes.specs.Refusals.{Sized, wrap_refusal}
use Rattle.modes.proofs.Refusals.{keys_refused, keys_sized, keys_other, keys_fit}
use Rattle.wrap_refusals.proofs.wrap_refusal.Goals as goal
use Rattle.wrap_refusals.proofs.wrap_refusal.Goals.{Else-number-ne0}

pub returns-then-number-ne0 : goal.returns-then-number-ne0
unfolding wrap_refusal
returns-then-number-ne0 c = keys_refused 16 128 _ _ _ _ _ c.source_refusal-number.ensures c.if-number-ne0.true

-- the source is short from the first check on
short : (c : Else-number-ne0) → Sized 16 128 c.args.source
short c = let a = c.args in keys_sized 16 128 a.n a.source a.source a.destination 0 c.source_refusal-number.ensures c.if-number-ne0.false

pub overflow_add-source : goal.overflow_add-source
overflow_add-source c = omega (arith, (short c).1, (short c).2)

pub returns-then-destination-source : goal.returns-then-destination-source
unfolding wrap_refusal
returns-then-destination-source c = keys_other 16 128 _ _ _ _ _ c.source_refusal-number.ensures c.if-number-ne0.false c.if-destination-source.true

pub returns : goal.returns
unfolding wrap_refusal
returns c = keys_fit 16 128 _ _ _ _ _ c.source_refusal-number.ensures c.if-number-ne0.false c.if-destination-source.false
