-- n, the set and the words, in a buffer of the key's length.
-- Assumes nothing.
use Rattle.key_records.proofs.Parts.{key_written}
use Rattle.key_records.proofs.put_key.Goals as goal

pub returns : goal.returns
returns c = key_written c.args.k c.args.d.now c.if-d-ne272.false c.store_word.ensures c.store_word-2.ensures c.put_words.ensures
