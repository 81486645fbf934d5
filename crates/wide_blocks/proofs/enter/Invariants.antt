-- After j turns the words below j of both halves are there.
-- Assumes nothing.
use Rattle.std.proofs.Common.{◌+◌, get_or}
use Rattle.forms.specs.Words.{rotl}
use Rattle.forms.proofs.Lists.{Replaced}
use Rattle.labyrinth.specs.Blocks.{plus}
use Rattle.labyrinth.specs.Groups.{spaced_sub}
use Rattle.wide_blocks.proofs.enter.Given as goal

abbrev pub invariant-loop-j : goal.invariant-loop-j
invariant-loop-j g l =
    Replaced (λ j'. rotl (spaced_sub l.s (plus (get_or l.x.high j' 0) (get_or l.ks (g.row.N + j') 0))) 2) l.initial.high l.j l.high
    × Replaced (λ j'. rotl (spaced_sub l.s (plus (get_or l.x.low j' 0) (get_or l.ks j' 0))) 62) l.initial.low l.j l.low
