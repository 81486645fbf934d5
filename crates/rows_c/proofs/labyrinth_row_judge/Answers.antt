-- The length, then the verdict.
-- Assumes nothing.
use Rattle.one_shot.proofs.Rows.{judge_length, judge_eight}
use Rattle.rows_c.proofs.labyrinth_row_judge.Goals as goal

pub returns-then-row-ne8 : goal.returns-then-row-ne8
returns-then-row-ne8 c = let both = judge_length c.args.row.now c.if-row-ne8.true in record { number = both.0; verdict = both.1 }

pub returns : goal.returns
returns c = let both = judge_eight c.args.row.now c.if-row-ne8.false c.eight.ensures c.judge-v.ensures c.as_byte.ensures in record { number = both.0; verdict = both.1 }
