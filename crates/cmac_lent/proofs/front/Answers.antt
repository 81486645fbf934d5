-- A message of no bytes has one block, and any other as many as it fills.
-- Assumes nothing.
use Rattle.modes.proofs.Cmac.{front_none, front_some}
use Rattle.cmac_lent.proofs.front.Goals as goal

pub returns-then-size-eq0 : goal.returns-then-size-eq0
returns-then-size-eq0 c = front_none c.args.size c.if-size-eq0.true

pub returns-else-size-eq0 : goal.returns-else-size-eq0
returns-else-size-eq0 c = front_some c.args.size c.if-size-eq0.false
