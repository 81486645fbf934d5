-- A refusal leaves the destination; else every block of the source is mapped.
-- Assumes nothing.
use Rattle.forms.proofs.Refusals.{refused_keeps}
use Rattle.many_blocks.proofs.Refusals.{many_taken}
use Rattle.many_blocks.proofs.map_to.Goals as goal

pub returns-then-number-ne0 : goal.returns-then-number-ne0
returns-then-number-ne0 c = record { number = c.many_refusal-number.ensures; blocks = refused_keeps _ _ _ c.if-number-ne0.true }

pub mapped-requires : goal.mapped-requires
mapped-requires c =
    let k = many_taken _ _ _ _ c.many_refusal-number.ensures c.if-number-ne0.false in
    (k.size, k.whole, k.mask, k.same)
