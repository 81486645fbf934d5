-- The bytes of the word mixed by the published row, which is accepted.
-- Assumes nothing.
use Rattle.field.specs.Mixing.{mix}
use Rattle.field.specs.Published.{row}
use Rattle.rows.proofs.Rows.{published_word}
use Rattle.operands.proofs.Operands.{word_mapped}
use Rattle.operands.proofs.mix_bytes.Goals as goal

pub returns : goal.returns
returns c =
    word_mapped (mix row) c.args.b.now c.from_le_bytes.ensures (published_word _ c.row.ensures c.mix-m.ensures) c.to_le_bytes.ensures
