-- The length first, then what mixing by the row answers.
-- Assumes nothing.
use Rattle.one_shot.proofs.Rows.{row_length, row_eight}
use Rattle.rows_c.proofs.labyrinth_mix_row.Goals as goal

pub returns-then-row-ne8 : goal.returns-then-row-ne8
returns-then-row-ne8 c = let a = c.args in let both = row_length a.row.now a.word c.if-row-ne8.true in record { number = both.0; word = both.1 }

pub returns : goal.returns
returns c =
    let a = c.args in
    let both = row_eight a.row.now a.word c.if-row-ne8.false c.eight.ensures c.mix-m.ensures in record { number = both.0; word = both.1 }
