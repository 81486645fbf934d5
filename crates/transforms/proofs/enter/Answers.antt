-- Where the test fails, the halves are those of an empty block.
-- Assumes nothing.
use Rattle.std.proofs.Common.{length, ap, ◌∙◌}
use Rattle.forms.proofs.Booleans.{when_chosen, when_spared}
use Rattle.labyrinth.specs.Working.{fits, held, four_words}
use Rattle.labyrinth.proofs.Ends.{fits_is}
use Rattle.transforms.proofs.enter.Goals as goal

pub enter_any-requires : goal.enter_any-requires
enter_any-requires c = let a = c.args in fits_is a.n (length a.src.now) c.fit.ensures c.if-fit.true

pub returns-then-fit : goal.returns-then-fit
unfolding fits
returns-then-fit c = c.enter_any.ensures ∙ ap held (when_chosen _ _ c.fit.ensures c.if-fit.true)

pub returns-else-fit : goal.returns-else-fit
unfolding fits held four_words
returns-else-fit c = ap held (when_spared _ _ c.fit.ensures c.if-fit.false)
