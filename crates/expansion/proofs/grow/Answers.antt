-- j half-blocks stand, and what is left to do gives the whole.
-- Assumes nothing.
use Rattle.std.proofs.Common.{◌≡◌, arith}
use Rattle.labyrinth.proofs.Expansion.{grown_start, grown_step, grown_end, register_taken}
use Rattle.expansion.proofs.grow.Goals as goal

pub loop-j-init : goal.loop-j-init
loop-j-init c =
    let a = c.args in
    let s = c.requires.0 in
    λ bytes e. grown_start _ a.n a.l bytes _ _ e (register_taken a.n a.l _ s.top c.first_register-g.ensures)

pub loop-j-preserved : goal.loop-j-preserved
loop-j-preserved c =
    let now = c.loop-j in
    λ bytes e. grown_step _ c.args.n c.args.l now.j now.g now.w _ c.requires.0 (now.invariant bytes e) (omega arith)
    c.step-stepped.ensures c.half_of.ensures c.half_of-in-loop-j.ensures c.iteration-y.ensures c.put.ensures

pub returns : goal.returns
returns c bytes e =
    let now = c.loop-j in
    let eight : now.j ≡ 8 = omega arith in grown_end _ c.args.n c.args.l now.j _ now.w _ (now.invariant bytes e) eight
