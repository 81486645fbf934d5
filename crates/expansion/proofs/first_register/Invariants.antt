-- After i turns the first i words stand.
-- Assumes nothing.
use Rattle.std.proofs.Common.{◌≡◌, ◌+◌, ◌*◌, get_or}
use Rattle.forms.specs.Lists.{tabulate, xor_sum}
use Rattle.forms.specs.Words.{rotl}
use Rattle.labyrinth.specs.Working.{four_words}
use Rattle.expansion.proofs.first_register.Given as goal

abbrev pub invariant-loop-i : goal.invariant-loop-i
invariant-loop-i l = l.g ≡ four_words (tabulate l.i (λ k. rotl (xor_sum l.l (λ j. get_or l.w (j * l.n + k) 0)) 29))
