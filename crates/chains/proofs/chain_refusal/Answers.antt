-- The checks in their order.
-- Assumes nothing.
use mathlib.Core.Path.{◌≡◌, sym, ◌∙◌}
use mathlib.Core.Bool.{true}
use Prim.Native.Nat.{◌*◌, ◌%◌}
use native.Mathlib.Omega.{arith}
use borrow.Author.Tests.{eq-eqb, ne_eqb}
use Rattle.labyrinth.specs.Refusals.{legal}
use Rattle.labyrinth.proofs.Refusals.{legal_size_of}
use Rattle.chains.specs.Chains.{chain_refusal}
use Rattle.chains.proofs.chain_refusal.Goals as goal
use Rattle.chains.proofs.chain_refusal.Goals.{Else-not-is_legal}

pub returns-then-not-is_legal : goal.returns-then-not-is_legal
unfolding chain_refusal
returns-then-not-is_legal c = rw (sym c.is_legal.ensures ∙ c.if-not-is_legal.true)

-- n is legal from the first check on
passed : (c : Else-not-is_legal) → legal c.args.n ≡ true
passed c = sym c.is_legal.ensures ∙ c.if-not-is_legal.false

pub overflow_mul-n : goal.overflow_mul-n
overflow_mul-n c = omega (arith, (legal_size_of _ (passed c)).top)

pub returns-then-before-n : goal.returns-then-before-n
unfolding chain_refusal
returns-then-before-n c = rw (passed (goal.at.returns-then-before-n c).Else-not-is_legal, ne_eqb _ _ c.if-before-n.true)

pub nonzero_rem-source : goal.nonzero_rem-source
nonzero_rem-source c = omega (arith, (legal_size_of _ (passed (goal.at.nonzero_rem-source c).Else-not-is_legal)).pos)

pub returns-then-source-n-ne0 : goal.returns-then-source-n-ne0
unfolding chain_refusal
returns-then-source-n-ne0 c =
    let a = c.args in
    rw (passed (goal.at.returns-then-source-n-ne0 c).Else-not-is_legal, eq-eqb _ _ c.if-before-n.false, ne_eqb (a.source % (16 * a.n)) 0 c.if-source-n-ne0.true)

pub returns-then-destination-source : goal.returns-then-destination-source
unfolding chain_refusal
returns-then-destination-source c = rw (passed (goal.at.returns-then-destination-source c).Else-not-is_legal, eq-eqb _ _ c.if-before-n.false, eq-eqb _ _ c.if-source-n-ne0.false, ne_eqb _ _ c.if-destination-source.true)

pub returns : goal.returns
unfolding chain_refusal
returns c = rw (passed (goal.at.returns c).Else-not-is_legal, eq-eqb _ _ c.if-before-n.false, eq-eqb _ _ c.if-source-n-ne0.false, eq-eqb _ _ c.if-destination-source.false)
