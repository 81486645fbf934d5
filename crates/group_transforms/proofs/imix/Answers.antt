-- After i turns the words below i of both halves are there.
-- Assumes nothing.
use Rattle.std.proofs.Common.{◌≡◌, ◌<◌, refl, arith}
use Rattle.forms.proofs.Lists.{replaced_none, replaced_more, replaced_all}
use Rattle.group_transforms.proofs.Ends.{imixed}
use Rattle.group_transforms.proofs.imix.Goals as goal

pub loop-i-init : goal.loop-i-init
loop-i-init g c = (replaced_none _ _, replaced_none _ _)

pub loop-i-preserved : goal.loop-i-preserved
loop-i-preserved g c =
    let v = c.loop-i in
    let h : v.i < 4 = omega arith in
    (replaced_more _ _ v.i h refl v.invariant.0, replaced_more _ _ v.i h refl v.invariant.1)

pub returns : goal.returns
returns g c =
    let v = c.loop-i in
    let h = c.args.h in
    let e : v.i ≡ 4 = omega arith in
    imixed g.row.N c.requires h.high h.low c.sigma-d.ensures (replaced_all _ _ e refl v.invariant.0) (replaced_all _ _ e refl v.invariant.1)
