-- After j turns the words below j of both halves are there.
-- Assumes nothing.
use Rattle.std.proofs.Common.{ℕ, ◌≡◌, ◌<◌, length, replicate, arith}
use Rattle.std.proofs.lemmas.List.{length-replicate}
use Rattle.forms.proofs.Lists.{replaced_none, replaced_more, replaced_all}
use Rattle.labyrinth.specs.Groups.{spaced_sub}
use Rattle.wide_blocks.proofs.Ends.{entered}
use Rattle.wide_blocks.proofs.enter.Goals as goal

pub loop-j-init : goal.loop-j-init
loop-j-init g c = (replaced_none _ _, replaced_none _ _)

pub loop-j-preserved : goal.loop-j-preserved
loop-j-preserved g c =
    let v = c.loop-j in
    let i : v.j < length (replicate g.row.N 0) = omega (arith, length-replicate {A = ℕ} g.row.N 0) in
    (replaced_more _ _ v.j i c.word_in-in-loop-j.ensures v.invariant.0, replaced_more _ _ v.j i c.word_in.ensures v.invariant.1)

pub returns : goal.returns
returns g c =
    let v = c.loop-j in
    let a = c.args in
    let e : v.j ≡ g.row.N = omega arith in
    let l = length-replicate {A = ℕ} g.row.N 0 in
    entered (spaced_sub a.s.now) g.row.N a.ks.now a.x.high a.x.low (replaced_all _ _ e l v.invariant.0) (replaced_all _ _ e l v.invariant.1) c.imix.ensures
