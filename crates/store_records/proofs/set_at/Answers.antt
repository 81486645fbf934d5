-- The substitution and the row behind it.
-- Assumes nothing.
use Rattle.records.specs.Records.{set_at}
use Rattle.store_records.proofs.set_at.Goals as goal

pub returns : goal.returns
unfolding set_at
returns c = rw (c.bytes_at.ensures, c.row_at.ensures)
