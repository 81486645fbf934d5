-- The four words are stored together.
-- Assumes nothing.
use Rattle.std.proofs.Common.{◌∙◌, take_at}
use Rattle.table_rounds.proofs.alone.Goals as goal

pub returns : goal.returns
returns c = let e = c.copy_from_slice.ensures in take_at c.copy_from_slice.new.self _ 4 e.len ∙ e.after
