-- After j turns the words below j are there.
-- Assumes nothing.
use Rattle.forms.proofs.Lists.{Replaced}
use Rattle.labyrinth.specs.Cipher as spec
use Rattle.wide_blocks.proofs.sigma.Given as goal

abbrev pub invariant-loop-j : goal.invariant-loop-j
invariant-loop-j g l = Replaced (spec.sigma (l.x.high, l.x.low)) l.initial.d l.j l.d
