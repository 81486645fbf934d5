-- The words below i have been read.
-- Assumes nothing.
use mathlib.Core.Path.{◌≡◌}
use lib.ListN.{length}
use Rattle.forms.proofs.Lists.{Replaced}
use Rattle.groups.proofs.Words.{word_in}
use Rattle.groups.proofs.group_words.Given as goal

abbrev pub invariant-loop-i : goal.invariant-loop-i
invariant-loop-i l = (length l.initial.x ≡ 8) × Replaced (word_in l.s) l.initial.x l.i l.x
