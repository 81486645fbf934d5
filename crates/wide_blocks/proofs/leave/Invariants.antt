-- After j turns the words below j of both halves are there.
-- Assumes nothing.
use Rattle.std.proofs.Common.{◌+◌, ◌*◌, get_or}
use Rattle.forms.specs.Words.{rotl}
use Rattle.forms.proofs.Lists.{Replaced}
use Rattle.labyrinth.specs.Blocks.{minus}
use Rattle.labyrinth.specs.Groups.{spaced_sub}
use Rattle.wide_blocks.proofs.leave.Given as goal

abbrev pub invariant-loop-j : goal.invariant-loop-j
invariant-loop-j g l =
    Replaced (λ j'. minus (spaced_sub l.u (rotl (get_or l.y.high j' 0) 62)) (get_or l.ks (19 * g.row.N + j') 0)) l.initial.high l.j l.high
    × Replaced (λ j'. minus (spaced_sub l.u (rotl (get_or l.y.low j' 0) 2)) (get_or l.ks (18 * g.row.N + j') 0)) l.initial.low l.j l.low
