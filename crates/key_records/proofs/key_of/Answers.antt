-- n, the set and the words.
-- Assumes nothing.
use Prim.Native.Nat.{◌+◌, ◌*◌}
use borrow.Author.Rules.{rules}
use Rattle.buffers.specs.Words.{word_at}
use Rattle.buffers.proofs.Arrays.{made}
use Rattle.records.specs.Records.{key_in}
use Rattle.key_records.proofs.key_of.Goals as goal

pub returns : goal.returns
unfolding key_in
returns c =
    rw (
      c.load_word.ensures,
      c.load_word-2.ensures,
      made _ _ (λ j. word_at c.args.b.now (16 + 8 * j)) (λ j y q k. search rules) c.from_fn.result 0 32 c.from_fn.ensures.items,
    )
