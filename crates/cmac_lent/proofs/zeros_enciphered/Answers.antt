-- One block, which is not refused.
-- Assumes nothing.
use mathlib.Core.Path.{refl}
use lib.ListN.{replicate}
use Rattle.labyrinth.specs.Lent.{lent}
use Rattle.labyrinth.proofs.Sizes.{size_one}
use Rattle.labyrinth.proofs.Lent.{table_lendable, lent_block}
use Rattle.cmac_lent.proofs.zeros_enciphered.Goals as goal

pub returns : goal.returns
returns c =
    lent_block 1 (lent 1 c.args.t.now c.args.s.now c.args.u.now c.args.ks.now (replicate 16 0)) (replicate 16 0) size_one (table_lendable c.args.t.now c.map_block-arg-1.given) refl refl
    c.map_block.ensures.number c.map_block.ensures.block
