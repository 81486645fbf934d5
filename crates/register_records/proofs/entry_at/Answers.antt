-- The numbers, and the key behind them.
-- Assumes nothing.
use Rattle.register_layout.specs.Layout.{entry_in}
use Rattle.register_records.proofs.entry_at.Goals as goal

pub returns : goal.returns
unfolding entry_in
returns c = rw (c.number_at.ensures, c.number_at-2.ensures, c.bytes_at.ensures)
