-- After j turns the words below j are there.
-- Assumes nothing.
use Rattle.std.proofs.Common.{◌+◌, ◌-◌, ◌*◌, ◌%◌, get_or}
use Rattle.forms.specs.Words.{rotl}
use Rattle.forms.proofs.Lists.{Replaced}
use Rattle.group_transforms.proofs.taken.Given as goal

abbrev pub invariant-loop-j : goal.invariant-loop-j
invariant-loop-j g l = Replaced (λ j'. rotl (get_or l.x (2 * j' - j' % g.row.N + l.behind) 0) l.turn) l.initial.r l.j l.r
