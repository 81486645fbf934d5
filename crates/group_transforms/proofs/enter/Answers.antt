-- The keyed words, their halves, and IMix of each block.
-- Assumes nothing.
use Rattle.std.proofs.Common.{sym, ◌∙◌, arith}
use Rattle.forms.proofs.Booleans.{when_chosen, when_spared}
use Rattle.labyrinth.specs.Working.{Size}
use Rattle.labyrinth.specs.Groups.{spaced_sub}
use Rattle.labyrinth.proofs.Refusals.{legal_size_of}
use Rattle.group_transforms.proofs.Ends.{entered}
use Rattle.group_transforms.proofs.enter.Goals as goal
use Rattle.group_transforms.proofs.enter.Goals.{Else-not-is_legal}

size : (g : _) (c : Else-not-is_legal g) → Size g.row.N
size g c = legal_size_of _ (sym c.is_legal.ensures ∙ c.if-not-is_legal.false)

pub keyed-y-requires : goal.keyed-y-requires
keyed-y-requires g c = size g (goal.at.keyed-y-requires g c).Else-not-is_legal

pub taken-requires : goal.taken-requires
taken-requires g c = (size g (goal.at.taken-requires g c).Else-not-is_legal, omega arith, omega arith)

pub taken-requires-2 : goal.taken-requires-2
taken-requires-2 g c = (size g (goal.at.taken-requires-2 g c).Else-not-is_legal, omega arith, omega arith)

pub imix-requires : goal.imix-requires
imix-requires g c = size g (goal.at.imix-requires g c).Else-not-is_legal

pub returns-then-not-is_legal : goal.returns-then-not-is_legal
returns-then-not-is_legal g c = when_spared _ _ c.is_legal.ensures c.if-not-is_legal.true

pub returns : goal.returns
returns g c =
    let a = c.args in
    entered (spaced_sub a.s.now) g.row.N (size g (goal.at.returns g c).Else-not-is_legal) a.ks.now a.x c.keyed-y.ensures c.taken.ensures c.taken-2.ensures c.imix.ensures
    ∙ when_chosen _ _ c.is_legal.ensures c.if-not-is_legal.false
