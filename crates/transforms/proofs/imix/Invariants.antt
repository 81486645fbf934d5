-- After i turns the words below i of both halves are there.
-- Assumes nothing.
use Rattle.std.proofs.Common.{◌≡◌, take}
use Rattle.forms.specs.Lists.{tabulate}
use Rattle.labyrinth.specs.Working.{four_words}
use Rattle.labyrinth.proofs.Ends.{mixed_word}
use Rattle.transforms.proofs.imix.Given as goal

abbrev pub invariant-loop-i : goal.invariant-loop-i
invariant-loop-i l = (l.high ≡ four_words (tabulate l.i (mixed_word l.n (take l.n l.l, take l.n l.r) (take l.n l.l)))) × (l.low ≡ four_words (tabulate l.i (mixed_word l.n (take l.n l.l, take l.n l.r) (take l.n l.r))))
