-- The three phases.
-- Assumes nothing.
use mathlib.Core.Path.{refl, ap, ◌∙◌}
use Rattle.labyrinth.specs.Groups.{joined}
use Rattle.labyrinth.proofs.Rounds.{when_legal}
use Rattle.labyrinth.proofs.GroupLines.{group_phases}
use Rattle.groups.proofs.group_of.Goals as goal

pub returns : goal.returns
returns g c =
    let N = g.row.N in
    let s = c.requires in
    c.leave.ensures ∙ when_legal N s _ _
    ∙ ap (joined N) (group_phases _ _ _ N s _ _ (c.enter.ensures ∙ when_legal N s _ _) (c.rounds-h.ensures ∙ when_legal N s _ _) c.exchange.ensures refl)
