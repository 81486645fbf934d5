-- std's bytes of a word are the article's.
-- Assumes nothing.
use mathlib.Core.Path.{◌∙◌}
use Rattle.word_bytes.proofs.Words.{le_bytes}
use Rattle.rows.proofs.row_of.Goals as goal

pub returns : goal.returns
returns c = c.to_le_bytes.ensures ∙ le_bytes _
