-- After j turns the words below j are there; word 0 is rotated at the end.
-- Assumes nothing.
use Rattle.std.proofs.Common.{◌≡◌, get_or, take}
use lib.Bits.{bit_xor}
use Rattle.forms.specs.Lists.{tabulate}
use Rattle.labyrinth.specs.Working.{four_words}
use Rattle.transforms.proofs.sigma.Given as goal

abbrev pub invariant-loop-j : goal.invariant-loop-j
invariant-loop-j l = l.d ≡ four_words (tabulate l.j (λ k. bit_xor (get_or (take l.n l.l) k 0) (get_or (take l.n l.r) k 0)))
