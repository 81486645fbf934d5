-- The XOR of the block and the chain stands in the 64 bytes, and is mapped to the next chain.
-- Assumes nothing.
use mathlib.Core.Path.{refl}
use native.Mathlib.Omega.{arith}
use Rattle.strings.proofs.Laying.{xor_whole}
use Rattle.chains.proofs.Wide.{block_made}
use Rattle.chains.proofs.link_4.Goals as goal

pub returns : goal.returns
returns c =
    let a = c.args in
    block_made a.t.now a.s.now a.u.now a.ks.now a.src.now a.c.now c.requires.1 c.requires.0
    (xor_whole a.src.now a.c.now c.zero_block-x.result (omega arith) (omega (arith, c.zero_block-x.ensures.long)) c.xor_to.ensures refl)
    c.block_4.ensures
