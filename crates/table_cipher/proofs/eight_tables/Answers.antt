-- The eight tables are filled, since both lengths are right.
-- Assumes nothing.
use Rattle.eight_tables.proofs.Making.{eight_filled}
use Rattle.table_cipher.proofs.eight_tables.Goals as goal

pub returns : goal.returns
returns c =
    eight_filled c.args.t.now c.zeros-eight.result c.fill-arg-1.given c.zeros-eight.ensures c.fill.ensures.table
