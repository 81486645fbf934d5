-- The four sets, and what is taken.
-- Assumes nothing.
use Rattle.records.specs.Records.{store_in}
use Rattle.store_records.proofs.store_of.Goals as goal

pub returns : goal.returns
unfolding store_in
returns c =
    rw (c.set_at.ensures, c.set_at-2.ensures, c.set_at-3.ensures, c.set_at-4.ensures, c.load_word.ensures, c.load_word-2.ensures)
