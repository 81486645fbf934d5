-- After j turns the words below j are there.
-- Assumes nothing.
use Rattle.std.proofs.Common.{◌<◌, ◌∙◌, arith}
use Rattle.forms.proofs.Lists.{replaced_none, replaced_more}
use Rattle.group_transforms.proofs.Ends.{sigma_first, sigma_later}
use Rattle.group_transforms.proofs.sigma.Goals as goal
use Rattle.group_transforms.proofs.sigma.Goals.{then-first, else-first}

pub loop-j-init : goal.loop-j-init
loop-j-init g c = replaced_none _ _

pub loop-j-preserved : goal.loop-j-preserved
loop-j-preserved g c =
    let v = c.loop-j in
    let h = c.args.h.now in
    let l : v.j < 4 = omega arith in
    replaced_more _ _ v.j l
    (elim c.if-first.branch [
      | then-first w ↦ sigma_first g.row.N c.requires h.high h.low v.j l w.if-first.true (w.d-is ∙ w.rotate_left.ensures)
      | else-first w ↦ sigma_later g.row.N c.requires h.high h.low v.j l w.if-first.false w.d-is
    ])
    v.invariant
