-- The length first, then what inversion answers, then the destination.
-- Assumes nothing.
use Rattle.one_shot.proofs.Rows.{inverse_length, inverse_refused, inverse_room, inverse_done}
use Rattle.rows_c.proofs.labyrinth_row_inverse.Goals as goal

pub returns-then-row-ne8 : goal.returns-then-row-ne8
returns-then-row-ne8 c = let a = c.args in let both = inverse_length a.row.now a.dst.now c.if-row-ne8.true in record { number = both.0; row = both.1 }

pub returns-then-refused : goal.returns-then-refused
returns-then-refused c =
    let a = c.args in
    let both = inverse_refused a.row.now a.dst.now c.if-row-ne8.false c.eight.ensures c.inverse-found.ensures c.if-refused.true in record { number = both.0; row = both.1 }

pub returns-then-dst-ne8 : goal.returns-then-dst-ne8
returns-then-dst-ne8 c =
    let a = c.args in
    let both = inverse_room a.row.now a.dst.now c.if-row-ne8.false c.eight.ensures c.inverse-found.ensures c.if-refused.false c.if-dst-ne8.true in record { number = both.0; row = both.1 }

pub returns : goal.returns
returns c =
    let a = c.args in
    let both = inverse_done a.row.now a.dst.now c.if-row-ne8.false c.eight.ensures c.inverse-found.ensures c.if-refused.false c.if-dst-ne8.false
    c.put_row.ensures in record { number = both.0; row = both.1 }
