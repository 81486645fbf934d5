-- After i turns the word has the bytes below i.
-- Assumes nothing.
use mathlib.Core.List.{[]}
use lib.ListN.{get_or}
use Rattle.forms.proofs.Words.{Joined}
use Rattle.field.specs.Mixing.{dot}
use Rattle.matrices.proofs.mix_by.Given as goal

abbrev pub invariant-loop-i : goal.invariant-loop-i
invariant-loop-i l = Joined l.i (λ k. dot (get_or l.m k []) l.w) l.r
