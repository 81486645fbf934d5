-- The three tests, one after another.
-- Assumes nothing.
use Rattle.forms.proofs.Booleans.{one_of_first, one_of_second, one_of_third}
use Rattle.labyrinth.specs.Refusals.{legal}
use Rattle.labyrinth.proofs.is_legal.Goals as goal

pub returns-then-n-eq1 : goal.returns-then-n-eq1
unfolding legal
returns-then-n-eq1 c = one_of_first 1 2 4 _ c.if-n-eq1.true

pub returns-then-two : goal.returns-then-two
unfolding legal
returns-then-two c = one_of_second 1 2 4 _ c.if-n-eq1.false c.if-two.true

pub returns : goal.returns
unfolding legal
returns c = one_of_third 1 2 4 _ c.if-n-eq1.false c.if-two.false
