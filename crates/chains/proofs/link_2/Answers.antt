-- The words of the block and of the chain, XORed, mapped, and stored over the chain.
-- Assumes nothing.
use mathlib.Core.Path.{ap, ◌∙◌}
use native.Mathlib.Omega.{arith}
use Rattle.labyrinth.specs.Groups.{in_memory, lookup_four, spaced_sub, line_by}
use Rattle.chains.proofs.Wide.{four_mixed, four_stored, link_made}
use Rattle.chains.proofs.link_2.Goals as goal

pub returns : goal.returns
returns c =
    let a = c.args in
    link_made 2 a.t.now a.s.now a.u.now a.ks.now a.src.now a.c.now
    (λ j. omega (arith, c.shared_slice_known-1.given j)) (λ j. omega (arith, c.slice_known-1.given j)) c.requires.1 c.requires.0
    (c.block_2-y.ensures ∙ ap (in_memory 2 (line_by (spaced_sub a.s.now) (spaced_sub a.u.now) (lookup_four a.t.now) 2 a.ks.now))
    (four_mixed a.src.now a.c.now c.load_word.ensures c.load_word-2.ensures c.load_word-3.ensures c.load_word-4.ensures
    c.load_word-5.ensures c.load_word-6.ensures c.load_word-7.ensures c.load_word-8.ensures))
    (four_stored c.block_2-y.result a.c.now c.store_word.ensures c.store_word-2.ensures c.store_word-3.ensures c.store_word-4.ensures)
