-- The checks in their order.
-- Assumes nothing.
use mathlib.Core.Path.{sym, ◌∙◌}
use Rattle.modes.specs.Refusals.{cmac_refusal}
use Rattle.modes.proofs.Refusals.{cmac_iff, cmac_large, cmac_short, cmac_long}
use Rattle.run_refusals.proofs.cmac.cmac_refusal.Goals as goal

pub returns-then-not-is_legal : goal.returns-then-not-is_legal
unfolding cmac_refusal
returns-then-not-is_legal c = rw (sym c.is_legal.ensures ∙ c.if-not-is_legal.true)

pub returns-then-n-ne1 : goal.returns-then-n-ne1
returns-then-n-ne1 c = cmac_large _ _ (sym c.is_legal.ensures ∙ c.if-not-is_legal.false) c.if-n-ne1.true

pub returns-then-tag-lt8 : goal.returns-then-tag-lt8
returns-then-tag-lt8 c = cmac_short _ _ c.if-n-ne1.false c.if-tag-lt8.true

pub returns-then-long : goal.returns-then-long
returns-then-long c = cmac_long _ _ c.if-n-ne1.false c.if-long.true

pub returns : goal.returns
returns c = sym ((cmac_iff _ _).1 (c.if-n-ne1.false, c.if-tag-lt8.false, c.if-long.false))
