-- After i turns the first i words are stepped.
-- Assumes nothing.
use Rattle.std.proofs.Common.{◌≡◌, get_or, take}
use lib.Bits.{bit_xor}
use Rattle.forms.specs.Lists.{tabulate}
use Rattle.labyrinth.specs.Blocks.{plus}
use Rattle.labyrinth.specs.Working.{four_words}
use Rattle.expansion.proofs.step.Given as goal

abbrev pub invariant-loop-i : goal.invariant-loop-i
invariant-loop-i l = l.r ≡ four_words (tabulate l.i (λ j. bit_xor (plus (get_or (take l.n l.g) j 0) 0x1084210842108421) 0x4444444444444444))
