-- After b turns the word has the bytes below b, each from its place.
-- Assumes nothing.
use Rattle.std.proofs.Common.{◌+◌, ◌%◌, get_or, take}
use Rattle.forms.specs.Words.{byte}
use Rattle.forms.specs.Lists.{words_from}
use Rattle.forms.proofs.Words.{Joined}
use Rattle.labyrinth.specs.Blocks.{plus, zip}
use Rattle.matrix_rounds.proofs.perm_word.Given as goal

abbrev pub invariant-loop-b : goal.invariant-loop-b
invariant-loop-b l = Joined l.b (λ k. byte (get_or (zip l.n plus (take l.n l.x) (words_from l.n l.at l.ks)) ((l.j + k) % l.n) 0) k) l.r
