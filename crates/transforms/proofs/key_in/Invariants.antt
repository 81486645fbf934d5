-- After j turns the words below j have come in.
-- Assumes nothing.
use Rattle.std.proofs.Common.{◌≡◌}
use Rattle.forms.specs.Lists.{tabulate}
use Rattle.field.specs.Substitution.{sub}
use Rattle.labyrinth.specs.Working.{four_words}
use Rattle.labyrinth.proofs.Ends.{in_word}
use Rattle.transforms.proofs.key_in.Given as goal

abbrev pub invariant-loop-j : goal.invariant-loop-j
invariant-loop-j l = l.x ≡ four_words (tabulate l.j (in_word (sub l.s) l.ks l.k l.turn l.src l.at))
