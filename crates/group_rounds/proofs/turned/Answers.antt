-- After i turns the words below i are there.
-- Assumes nothing.
use Rattle.std.proofs.Common.{◌<◌, refl, arith}
use Rattle.forms.proofs.Lists.{replaced_none, replaced_more, replaced_all}
use Rattle.group_rounds.proofs.Iterations.{by_words, new_halves}
use Rattle.group_rounds.proofs.turned.Goals as goal

pub loop-i-init : goal.loop-i-init
loop-i-init g c = replaced_none _ _

pub loop-i-preserved : goal.loop-i-preserved
loop-i-preserved g c =
    let a = c.args in
    let v = c.loop-i in
    let h : v.i < 4 = omega arith in
    replaced_more _ _ v.i h (by_words a.t.now g.row.N c.requires.0 a.at a.ks.now a.l.now a.r.now c.keyed-z.ensures c.requires.2 v.i h refl c.word.ensures) v.invariant

pub returns : goal.returns
returns g c =
    let a = c.args in
    new_halves a.t.now g.row.N c.requires.0 a.at a.ks.now a.l.now a.r.now c.told-r (replaced_all _ _ (omega arith) refl c.loop-i.invariant)
