-- Where the test fails, the buffer stays as it was.
-- Assumes nothing.
use Rattle.std.proofs.Common.{length, ◌∙◌}
use Rattle.forms.proofs.Booleans.{when_chosen, when_spared}
use Rattle.labyrinth.specs.Working.{fits}
use Rattle.labyrinth.proofs.Ends.{fits_is}
use Rattle.transforms.proofs.leave.Goals as goal

pub leave_any-requires : goal.leave_any-requires
leave_any-requires c = let a = c.args in fits_is a.n (length a.dst.now) c.fit.ensures c.if-fit.true

pub returns-then-fit : goal.returns-then-fit
unfolding fits
returns-then-fit c = c.leave_any.ensures ∙ when_chosen _ _ c.fit.ensures c.if-fit.true

pub returns-else-fit : goal.returns-else-fit
unfolding fits
returns-else-fit c = when_spared _ _ c.fit.ensures c.if-fit.false
