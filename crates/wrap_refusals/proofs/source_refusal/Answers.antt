-- The checks in their order.
-- Assumes nothing.
use mathlib.Core.Path.{◌≡◌, sym, ◌∙◌}
use mathlib.Core.Bool.{true}
use borrow.Author.Tests.{eq-eqb, ne_eqb}
use Rattle.labyrinth.specs.Refusals.{legal}
use Rattle.wrap_refusals.proofs.source_refusal.Goals as goal
use Rattle.wrap_refusals.proofs.source_refusal.Goals.{Else-not-is_legal}

pub returns-then-not-is_legal : goal.returns-then-not-is_legal
returns-then-not-is_legal c = rw (sym c.is_legal.ensures ∙ c.if-not-is_legal.true)

-- n is legal from the first check on
fine : (c : Else-not-is_legal) → legal c.args.n ≡ true
fine c = sym c.is_legal.ensures ∙ c.if-not-is_legal.false

pub returns-then-n-ne1 : goal.returns-then-n-ne1
returns-then-n-ne1 c = rw (fine (goal.at.returns-then-n-ne1 c).Else-not-is_legal, ne_eqb _ 1 c.if-n-ne1.true)

pub returns-then-not-is_sized : goal.returns-then-not-is_sized
returns-then-not-is_sized c = rw (fine (goal.at.returns-then-not-is_sized c).Else-not-is_legal, eq-eqb _ 1 c.if-n-ne1.false, sym c.is_sized.ensures ∙ c.if-not-is_sized.true)

pub returns : goal.returns
returns c = rw (fine (goal.at.returns c).Else-not-is_legal, eq-eqb _ 1 c.if-n-ne1.false, sym c.is_sized.ensures ∙ c.if-not-is_sized.false)
