-- n and the source first, then the destination.
-- Assumes nothing.
use native.Mathlib.Omega.{arith}
use Rattle.modes.specs.Refusals.{Sized, unwrap_refusal}
use Rattle.modes.proofs.Refusals.{keys_refused, keys_sized, keys_other, keys_fit}
use Rattle.wrap_refusals.proofs.unwrap_refusal.Goals as goal
use Rattle.wrap_refusals.proofs.unwrap_refusal.Goals.{Else-number-ne0}

pub returns-then-number-ne0 : goal.returns-then-number-ne0
unfolding unwrap_refusal
returns-then-number-ne0 c = keys_refused 24 136 _ _ _ _ _ c.source_refusal-number.ensures c.if-number-ne0.true

-- the source is short from the first check on
short : (c : Else-number-ne0) → Sized 24 136 c.args.source
short c = let a = c.args in keys_sized 24 136 a.n a.source a.destination a.source 0 c.source_refusal-number.ensures c.if-number-ne0.false

pub overflow_sub-source : goal.overflow_sub-source
overflow_sub-source c = omega (arith, (short c).1, (short c).2)

pub returns-then-destination-source : goal.returns-then-destination-source
unfolding unwrap_refusal
returns-then-destination-source c = keys_other 24 136 _ _ _ _ _ c.source_refusal-number.ensures c.if-number-ne0.false (λ h. c.if-destination-source.true (omega (arith, (short (goal.at.returns-then-destination-source c).Else-number-ne0).1)))

pub returns : goal.returns
unfolding unwrap_refusal
returns c = keys_fit 24 136 _ _ _ _ _ c.source_refusal-number.ensures c.if-number-ne0.false (omega (arith, c.if-destination-source.false, (short (goal.at.returns c).Else-number-ne0).1))
