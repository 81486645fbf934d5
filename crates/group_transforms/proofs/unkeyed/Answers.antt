-- After i turns the words below i are there.
-- Assumes nothing.
use Rattle.std.proofs.Common.{◌<◌, arith}
use Rattle.forms.proofs.Lists.{replaced_none, replaced_more}
use Rattle.group_transforms.proofs.unkeyed.Goals as goal

pub loop-i-init : goal.loop-i-init
loop-i-init g c = replaced_none _ _

pub loop-i-preserved : goal.loop-i-preserved
loop-i-preserved g c =
    let v = c.loop-i in
    let h : v.i < 8 = omega arith in
    replaced_more _ _ v.i h (omega (arith, c.substitute.ensures)) v.invariant
