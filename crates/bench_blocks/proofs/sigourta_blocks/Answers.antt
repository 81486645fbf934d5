-- A legal n has a size, and the lengths were compared.
-- Assumes nothing.
use mathlib.Core.Path.{sym, ◌∙◌}
use native.Mathlib.Omega.{arith}
use Rattle.labyrinth.proofs.Refusals.{legal_size_of}
use Rattle.bench_blocks.proofs.sigourta_blocks.Goals as goal

pub each_block-requires : goal.each_block-requires
each_block-requires c =
    let legal = c.is_legal.ensures in
    (legal_size_of c.args.n (sym legal ∙ c.if-not-is_legal.false), omega arith)
