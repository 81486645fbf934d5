-- At most one block goes by itself.
-- Assumes nothing.
use Prim.Native.Nat.{◌*◌}
use native.Mathlib.Omega.{arith}
use Rattle.ctr_lent.proofs.Counting.{run_block}
use Rattle.ctr_lent.proofs.from_counter.Goals as goal

pub returns-then-src-counter : goal.returns-then-src-counter
returns-then-src-counter c =
    run_block _ (16 * c.args.n) (omega (arith, c.requires.0.pos)) c.args.counter.now c.requires.1 (λ i. omega (arith, c.slice_known-1.given i)) c.args.src.now (omega (arith, c.requires.1, c.if-src-counter.true)) c.ctr_block.ensures
