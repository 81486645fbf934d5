-- After j turns the words below j are there.
-- Assumes nothing.
use Rattle.std.proofs.Common.{◌+◌, ◌-◌, ◌*◌, ◌%◌, ◌<◌, get_or, ap, ◌∙◌, mod-eq_of_lt, arith}
use Rattle.forms.specs.Words.{rotl}
use Rattle.forms.proofs.Lists.{replaced_none, replaced_more}
use Rattle.group_transforms.proofs.taken.Goals as goal

pub loop-j-init : goal.loop-j-init
loop-j-init g c = replaced_none _ _

pub loop-j-preserved : goal.loop-j-preserved
loop-j-preserved g c =
    let v = c.loop-j in
    let a = c.args in
    let h : v.j < 4 = omega arith in
    let t : a.turn < 64 = omega arith in
    replaced_more _ _ v.j h (c.rotate_left.ensures ∙ ap (rotl (get_or a.x.now (2 * v.j - v.j % g.row.N + a.behind) 0)) (mod-eq_of_lt t)) v.invariant
