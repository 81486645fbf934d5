-- A refusal leaves the block before the first and the destination; else every block is chained.
-- Assumes nothing.
use Rattle.forms.proofs.Refusals.{refused_keeps}
use Rattle.chains.proofs.Refusals.{chain_taken}
use Rattle.chains.proofs.chain.Goals as goal

pub returns-then-number-ne0 : goal.returns-then-number-ne0
returns-then-number-ne0 c = record { number = c.chain_refusal-number.ensures; blocks = refused_keeps _ _ _ c.if-number-ne0.true; last = refused_keeps _ _ _ c.if-number-ne0.true }

pub linked-requires : goal.linked-requires
linked-requires c =
    let k = chain_taken _ _ _ _ c.chain_refusal-number.ensures c.if-number-ne0.false in
    (k.size, k.start, k.whole, λ _. k.same)
