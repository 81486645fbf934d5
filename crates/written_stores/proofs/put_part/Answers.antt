-- The string is copied to the front of what is left from the place on.
-- Assumes nothing.
use Rattle.written_stores.proofs.Parts.{put_there}
use Rattle.written_stores.proofs.put_part.Goals as goal

pub returns : goal.returns
returns c = put_there c.args.d.now c.args.s.now c.args.at c.requires c.copy_into.ensures
