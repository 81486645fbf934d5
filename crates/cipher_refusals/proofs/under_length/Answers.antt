-- The checks in their order.
-- Assumes nothing.
use mathlib.Core.Path.{sym, ◌∙◌}
use Rattle.labyrinth.specs.Refusals.{under_length}
use Rattle.cipher_refusals.proofs.under_length.Goals as goal

pub returns-then-not-is_legal : goal.returns-then-not-is_legal
unfolding under_length
returns-then-not-is_legal c = rw (sym c.is_legal.ensures ∙ c.if-not-is_legal.true)

pub returns-then-not-is_legal_length : goal.returns-then-not-is_legal_length
unfolding under_length
returns-then-not-is_legal_length c = rw (sym c.is_legal.ensures ∙ c.if-not-is_legal.false, sym c.is_legal_length.ensures ∙ c.if-not-is_legal_length.true)

pub returns-then-not-loaded : goal.returns-then-not-loaded
unfolding under_length
returns-then-not-loaded c =
    rw
    (sym c.is_legal.ensures ∙ c.if-not-is_legal.false, sym c.is_legal_length.ensures ∙ c.if-not-is_legal_length.false, c.if-not-loaded.true)

pub returns : goal.returns
unfolding under_length
returns c =
    rw
    (sym c.is_legal.ensures ∙ c.if-not-is_legal.false, sym c.is_legal_length.ensures ∙ c.if-not-is_legal_length.false, c.if-not-loaded.false)
