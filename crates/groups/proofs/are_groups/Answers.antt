-- The tests one after another.
-- Assumes nothing.
use mathlib.Core.Path.{◌≡◌, refl, sym, ◌∙◌}
use mathlib.Core.Bool.{true}
use Prim.Native.Nat.{◌%◌}
use borrow.Author.Tests.{eq-eqb, ne_eqb}
use Rattle.labyrinth.specs.Refusals.{legal}
use Rattle.groups.proofs.are_groups.Goals as goal
use Rattle.groups.proofs.are_groups.Goals.{Else-not-is_legal}

pub returns-then-not-is_legal : goal.returns-then-not-is_legal
returns-then-not-is_legal c = rw (sym c.is_legal.ensures ∙ c.if-not-is_legal.true)

-- n is legal from the first test on
passed : (c : Else-not-is_legal) → legal c.args.n ≡ true
passed c = sym c.is_legal.ensures ∙ c.if-not-is_legal.false

pub returns-then-source-ne0 : goal.returns-then-source-ne0
returns-then-source-ne0 c = rw (passed (goal.at.returns-then-source-ne0 c).Else-not-is_legal, ne_eqb (c.args.source % 64) 0 c.if-source-ne0.true)

pub returns-then-mask-source : goal.returns-then-mask-source
returns-then-mask-source c = rw (passed (goal.at.returns-then-mask-source c).Else-not-is_legal, eq-eqb _ _ c.if-source-ne0.false, ne_eqb _ _ c.if-mask-source.true)

pub returns : goal.returns
returns c = rw (passed (goal.at.returns c).Else-not-is_legal, eq-eqb _ _ c.if-source-ne0.false, eq-eqb _ _ c.if-mask-source.false) refl
