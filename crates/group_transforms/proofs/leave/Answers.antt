-- IMix of each block, its words as in memory, and those unkeyed.
-- Assumes nothing.
use Rattle.std.proofs.Common.{sym, ◌∙◌}
use Rattle.forms.proofs.Booleans.{when_chosen, when_spared}
use Rattle.labyrinth.specs.Working.{Size}
use Rattle.labyrinth.specs.Groups.{spaced_sub}
use Rattle.labyrinth.proofs.Refusals.{legal_size_of}
use Rattle.group_transforms.proofs.Ends.{left}
use Rattle.group_transforms.proofs.leave.Goals as goal
use Rattle.group_transforms.proofs.leave.Goals.{Else-not-is_legal}

size : (g : _) (c : Else-not-is_legal g) → Size g.row.N
size g c = legal_size_of _ (sym c.is_legal.ensures ∙ c.if-not-is_legal.false)

pub imix-requires : goal.imix-requires
imix-requires g c = size g (goal.at.imix-requires g c).Else-not-is_legal

pub laid-requires : goal.laid-requires
laid-requires g c = size g (goal.at.laid-requires g c).Else-not-is_legal

pub unkeyed-requires : goal.unkeyed-requires
unkeyed-requires g c = size g (goal.at.unkeyed-requires g c).Else-not-is_legal

pub returns-then-not-is_legal : goal.returns-then-not-is_legal
returns-then-not-is_legal g c = when_spared _ _ c.is_legal.ensures c.if-not-is_legal.true

pub returns : goal.returns
returns g c =
    let a = c.args in
    left (spaced_sub a.u.now) g.row.N (size g (goal.at.returns g c).Else-not-is_legal) a.ks.now a.h c.imix.ensures c.laid.ensures c.unkeyed.ensures
    ∙ when_chosen _ _ c.is_legal.ensures c.if-not-is_legal.false
