-- After j turns the words below j are there.
-- Assumes nothing.
use Rattle.forms.specs.Lists.{words_from}
use Rattle.forms.proofs.Lists.{Replaced}
use Rattle.labyrinth.specs.Groups.{lookup_four}
use Rattle.wide_blocks.proofs.Iterations.{new_word}
use Rattle.wide_blocks.proofs.round.Given as goal

abbrev pub invariant-loop-j : goal.invariant-loop-j
invariant-loop-j g l = Replaced (new_word (lookup_four l.t) g.row.N (words_from g.row.N l.at l.ks) l.x.high l.x.low) l.initial.low l.j l.low
