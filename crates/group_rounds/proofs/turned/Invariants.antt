-- After i turns the words below i are there.
-- Assumes nothing.
use Rattle.std.proofs.Common.{true}
use Rattle.forms.proofs.Lists.{Replaced}
use Rattle.labyrinth.specs.Working.{lookup_in}
use Rattle.group_rounds.proofs.Iterations.{new_word}
use Rattle.group_rounds.proofs.turned.Given as goal

abbrev pub invariant-loop-i : goal.invariant-loop-i
invariant-loop-i g l = Replaced (new_word (lookup_in true l.t) g.row.N l.at l.ks l.l l.r) l.initial.y l.i l.y
