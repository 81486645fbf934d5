-- After j turns the first j words of both halves are the new ones.
-- Assumes nothing.
use Rattle.std.proofs.Common.{take}
use Rattle.forms.specs.Words.{each_byte}
use Rattle.forms.specs.Lists.{words_from}
use Rattle.field.specs.Substitution.{sub}
use Rattle.field.specs.Mixing.{mix_by}
use Rattle.labyrinth.specs.Blocks.{plus, zip}
use Rattle.labyrinth.proofs.Rounds.{Turned}
use Rattle.matrix_rounds.proofs.round.Given as goal

abbrev pub invariant-loop-j : goal.invariant-loop-j
invariant-loop-j l = Turned (λ w. mix_by l.m (each_byte (sub l.s) w)) l.n (zip l.n plus (take l.n l.x) (words_from l.n l.at l.ks)) l.initial.l l.initial.r l.j l.l l.r
