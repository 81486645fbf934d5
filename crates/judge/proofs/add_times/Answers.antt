-- The bytes of the two rows' words.
-- Assumes nothing.
use mathlib.Core.Path.{◌∙◌}
use Rattle.word_bytes.proofs.Words.{from_le}
use Rattle.rows.proofs.Ring.{given_row}
use Rattle.judge.proofs.Elimination.{sum_of_words}
use Rattle.judge.proofs.add_times.Goals as goal

pub returns : goal.returns
returns c =
    let a = c.args in
    c.row_of.ensures
    ∙ sum_of_words a.x a.c a.y (given_row a.x _ c.well_formed.0) (given_row a.y _ c.well_formed.1.1.0) (c.from_le_bytes.ensures ∙ from_le a.x)
    (c.from_le_bytes-2.ensures ∙ from_le a.y) c.times_each.ensures
