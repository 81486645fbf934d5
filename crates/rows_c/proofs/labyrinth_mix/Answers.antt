-- The published row is accepted.
-- Assumes nothing.
use Rattle.rows.proofs.Rows.{published_word}
use Rattle.rows_c.proofs.labyrinth_mix.Goals as goal

pub returns : goal.returns
returns c = published_word _ c.row.ensures c.mix-m.ensures
