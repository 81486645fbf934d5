-- The checks in their order.
-- Assumes nothing.
use mathlib.Core.Path.{sym, ◌∙◌}
use Rattle.labyrinth.specs.Refusals.{under_key}
use Rattle.labyrinth.proofs.under_key.Goals as goal

pub returns-then-not-is_legal : goal.returns-then-not-is_legal
unfolding under_key
returns-then-not-is_legal c = rw (sym c.is_legal.ensures ∙ c.if-not-is_legal.true)

pub returns-then-not-loaded : goal.returns-then-not-loaded
unfolding under_key
returns-then-not-loaded c = rw (sym c.is_legal.ensures ∙ c.if-not-is_legal.false, c.if-not-loaded.true)

pub returns : goal.returns
unfolding under_key
returns c = rw (sym c.is_legal.ensures ∙ c.if-not-is_legal.false, c.if-not-loaded.false)
