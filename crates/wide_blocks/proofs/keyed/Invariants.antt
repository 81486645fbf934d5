-- After j turns the words below j are there.
-- Assumes nothing.
use Rattle.std.proofs.Common.{get_or}
use Rattle.forms.specs.Lists.{words_from}
use Rattle.forms.proofs.Lists.{Replaced}
use Rattle.labyrinth.specs.Blocks.{plus}
use Rattle.wide_blocks.proofs.keyed.Given as goal

abbrev pub invariant-loop-j : goal.invariant-loop-j
invariant-loop-j g l = Replaced (λ j'. plus (get_or l.x j' 0) (get_or (words_from g.row.N l.at l.ks) j' 0)) l.initial.z l.j l.z
