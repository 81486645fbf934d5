-- The byte, and the operand behind it.
-- Assumes nothing.
use Rattle.page_heads.proofs.Puts.{put_behind}
use Rattle.page_heads.proofs.lay_command.Goals as goal

pub returns : goal.returns
returns c = put_behind c.args.d.now c.args.operand.now c.args.c c.requires c.copy_from_slice.ensures.after
