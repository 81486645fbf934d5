-- The checks in their order.
-- Assumes nothing.
use mathlib.Core.Path.{sym, ◌∙◌}
use native.Mathlib.Omega.{arith}
use borrow.Author.Tests.{eq-eqb, ne_eqb}
use Rattle.labyrinth.specs.Refusals.{expand_refusal}
use Rattle.labyrinth.proofs.Refusals.{legal_size_of, legal_length_top}
use Rattle.labyrinth.proofs.Expansion.{product}
use Rattle.cipher_refusals.proofs.expand_refusal.Goals as goal

pub returns-then-not-is_legal : goal.returns-then-not-is_legal
unfolding expand_refusal
returns-then-not-is_legal c = rw (sym c.is_legal.ensures ∙ c.if-not-is_legal.true)

pub returns-then-not-is_legal_length : goal.returns-then-not-is_legal_length
unfolding expand_refusal
returns-then-not-is_legal_length c = rw (sym c.is_legal.ensures ∙ c.if-not-is_legal.false, sym c.is_legal_length.ensures ∙ c.if-not-is_legal_length.true)

pub overflow_mul-n : goal.overflow_mul-n
overflow_mul-n c = omega (arith, product _ (legal_size_of _ (sym c.is_legal.ensures ∙ c.if-not-is_legal.false)) _ (legal_length_top _ (sym c.is_legal_length.ensures ∙ c.if-not-is_legal_length.false)))

pub overflow_mul-n-2 : goal.overflow_mul-n-2
overflow_mul-n-2 c = omega (arith, product _ (legal_size_of _ (sym c.is_legal.ensures ∙ c.if-not-is_legal.false)) _ (legal_length_top _ (sym c.is_legal_length.ensures ∙ c.if-not-is_legal_length.false)))

pub returns-then-key-n : goal.returns-then-key-n
unfolding expand_refusal
returns-then-key-n c = rw (sym c.is_legal.ensures ∙ c.if-not-is_legal.false, sym c.is_legal_length.ensures ∙ c.if-not-is_legal_length.false, ne_eqb _ _ c.if-key-n.true)

pub returns : goal.returns
unfolding expand_refusal
returns c = rw (sym c.is_legal.ensures ∙ c.if-not-is_legal.false, sym c.is_legal_length.ensures ∙ c.if-not-is_legal_length.false, eq-eqb _ _ c.if-key-n.false)
