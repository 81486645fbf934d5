-- The checks in their order.
-- Assumes nothing.
use mathlib.Core.Path.{sym, ◌∙◌}
use Prim.Native.Nat.{◌*◌}
use native.Mathlib.Omega.{arith}
use borrow.Author.Tests.{eq-eqb, ne_eqb}
use Rattle.labyrinth.specs.Refusals.{block_refusal}
use Rattle.labyrinth.proofs.Refusals.{legal_size_of}
use Rattle.cipher_refusals.proofs.block_refusal.Goals as goal

pub returns-then-not-is_legal : goal.returns-then-not-is_legal
unfolding block_refusal
returns-then-not-is_legal c = rw (sym c.is_legal.ensures ∙ c.if-not-is_legal.true)

pub overflow_mul-n : goal.overflow_mul-n
overflow_mul-n c = omega (arith, (legal_size_of _ (sym c.is_legal.ensures ∙ c.if-not-is_legal.false)).top)

pub returns-then-source-n : goal.returns-then-source-n
unfolding block_refusal
returns-then-source-n c = rw (sym c.is_legal.ensures ∙ c.if-not-is_legal.false, ne_eqb _ _ c.if-source-n.true)

pub overflow_mul-n-2 : goal.overflow_mul-n-2
overflow_mul-n-2 c = omega (arith, (legal_size_of _ (sym c.is_legal.ensures ∙ c.if-not-is_legal.false)).top)

pub returns-then-destination-n : goal.returns-then-destination-n
unfolding block_refusal
returns-then-destination-n c =
    let a = c.args in
    rw (sym c.is_legal.ensures ∙ c.if-not-is_legal.false, eq-eqb _ _ c.if-source-n.false, ne_eqb a.destination (16 * a.n) c.if-destination-n.true)

pub returns : goal.returns
unfolding block_refusal
returns c = rw (sym c.is_legal.ensures ∙ c.if-not-is_legal.false, eq-eqb _ _ c.if-source-n.false, eq-eqb _ _ c.if-destination-n.false)
