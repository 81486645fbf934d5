-- The XOR of the chain and the block is mapped to the next chain.
-- Assumes nothing.
use mathlib.Core.Path.{refl, ap, ◌∙◌}
use native.Mathlib.Omega.{arith}
use lib.ListN.{replicate}
use Rattle.strings.proofs.Laying.{xor_whole}
use Rattle.labyrinth.specs.Lent.{lent}
use Rattle.labyrinth.proofs.Sizes.{size_one}
use Rattle.labyrinth.proofs.Lent.{table_lendable, lent_block}
use Rattle.cmac_lent.proofs.chain_block.Goals as goal

pub returns : goal.returns
returns c =
    let mixed = c.xor_to in
    let mapped = c.map_block in
    let a = c.args in
    let m = lent 1 a.t.now a.s.now a.u.now a.ks.now in
    lent_block 1 (m mixed.new.d) a.c.now size_one (table_lendable a.t.now c.map_block-arg-1.given) mixed.auto.d c.requires.0 mapped.ensures.number mapped.ensures.block
    ∙ ap m (xor_whole a.c.now a.block.now (replicate 16 0) (omega arith) (omega arith) mixed.ensures refl)
