-- The count, and the entries one after another.
-- Assumes nothing.
use Prim.Native.Nat.{◌+◌, ◌*◌}
use borrow.Author.Rules.{rules}
use Rattle.buffers.proofs.Arrays.{made}
use Rattle.registers.specs.Registers.{blank}
use Rattle.register_layout.specs.Layout.{entry_in, register_in}
use Rattle.register_records.proofs.register_of.Goals as goal

pub returns : goal.returns
unfolding register_in
returns c =
    rw (
      c.load_word.ensures,
      made _ _ (λ i. entry_in c.args.b.now (8 + 44 * i)) (λ j y q k. search rules) c.from_fn.result blank 64 c.from_fn.ensures.items,
    )
