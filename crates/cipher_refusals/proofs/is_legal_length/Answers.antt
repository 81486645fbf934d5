-- The three tests, one after another.
-- Assumes nothing.
use Rattle.forms.proofs.Booleans.{one_of_first, one_of_second, one_of_third}
use Rattle.labyrinth.specs.Refusals.{legal_length}
use Rattle.cipher_refusals.proofs.is_legal_length.Goals as goal

pub returns-then-l-eq2 : goal.returns-then-l-eq2
unfolding legal_length
returns-then-l-eq2 c = one_of_first 2 3 4 _ c.if-l-eq2.true

pub returns-then-l-eq3 : goal.returns-then-l-eq3
unfolding legal_length
returns-then-l-eq3 c = one_of_second 2 3 4 _ c.if-l-eq2.false c.if-l-eq3.true

pub returns : goal.returns
unfolding legal_length
returns c = one_of_third 2 3 4 _ c.if-l-eq2.false c.if-l-eq3.false
