-- An entry laid in a buffer of its length.
-- Assumes nothing.
use Rattle.register_records.proofs.Parts.{entry_written}
use Rattle.register_records.proofs.put_entry.Goals as goal

pub returns : goal.returns
returns c =
    entry_written c.args.e c.args.d.now c.if-other.false c.lay.ensures
