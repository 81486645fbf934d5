-- The checks in their order.
-- Assumes nothing.
use mathlib.Core.Path.{◌≡◌, sym, ◌∙◌}
use mathlib.Core.Bool.{true}
use Prim.Native.Nat.{◌*◌}
use native.Mathlib.Omega.{arith}
use borrow.Author.Tests.{eq-eqb, ne_eqb}
use Rattle.labyrinth.specs.Refusals.{legal}
use Rattle.labyrinth.proofs.Refusals.{legal_size_of}
use Rattle.modes.specs.Refusals.{ctr_lengths, ctr_refusal}
use Rattle.run_refusals.proofs.ctr.ctr_refusal.Goals as goal
use Rattle.run_refusals.proofs.ctr.ctr_refusal.Goals.{Else-not-is_legal}

pub returns-then-not-is_legal : goal.returns-then-not-is_legal
unfolding ctr_refusal ctr_lengths
returns-then-not-is_legal c = rw (sym c.is_legal.ensures ∙ c.if-not-is_legal.true)

-- n is legal
passed : (c : Else-not-is_legal) → legal c.args.n ≡ true
passed c = sym c.is_legal.ensures ∙ c.if-not-is_legal.false

pub overflow_mul-n : goal.overflow_mul-n
overflow_mul-n c = omega (arith, (legal_size_of _ (passed c)).top)

pub returns-then-start-n : goal.returns-then-start-n
unfolding ctr_refusal ctr_lengths
returns-then-start-n c = let a = c.args in rw (passed (goal.at.returns-then-start-n c).Else-not-is_legal, ne_eqb a.start (16 * a.n) c.if-start-n.true)

pub returns-then-destination-source : goal.returns-then-destination-source
unfolding ctr_refusal ctr_lengths
returns-then-destination-source c = rw (passed (goal.at.returns-then-destination-source c).Else-not-is_legal, eq-eqb _ _ c.if-start-n.false, ne_eqb _ _ c.if-destination-source.true)

pub returns : goal.returns
unfolding ctr_refusal ctr_lengths
returns c = rw (passed (goal.at.returns c).Else-not-is_legal, eq-eqb _ _ c.if-start-n.false, eq-eqb _ _ c.if-destination-source.false)
