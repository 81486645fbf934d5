-- After j turns the words below j of both halves are there.
-- Assumes nothing.
use Rattle.std.proofs.Common.{ℕ, ◌≡◌, ◌<◌, length, replicate, arith}
use Rattle.std.proofs.lemmas.List.{length-replicate}
use Rattle.forms.proofs.Lists.{replaced_none, replaced_more, replaced_all}
use Rattle.labyrinth.specs.Blocks.{Block}
use Rattle.wide_blocks.proofs.Ends.{mixed_word, imixed}
use Rattle.wide_blocks.proofs.imix.Goals as goal

pub loop-j-init : goal.loop-j-init
loop-j-init g c = (replaced_none _ _, replaced_none _ _)

pub loop-j-preserved : goal.loop-j-preserved
loop-j-preserved g c =
    let v = c.loop-j in
    let x = c.args.x in
    let s : Block = (x.high, x.low) in
    let h : v.j < g.row.N = omega arith in
    let i : v.j < length (replicate g.row.N 0) = omega (arith, length-replicate {A = ℕ} g.row.N 0) in (
      replaced_more _ _ v.j i (mixed_word g.row.N c.requires s x.high c.sigma-d.ensures v.j h) v.invariant.0,
      replaced_more _ _ v.j i (mixed_word g.row.N c.requires s x.low c.sigma-d.ensures v.j h) v.invariant.1,
    )

pub returns : goal.returns
returns g c =
    let v = c.loop-j in
    let x = c.args.x in
    let e : v.j ≡ g.row.N = omega arith in
    let l = length-replicate {A = ℕ} g.row.N 0 in
    imixed g.row.N (x.high, x.low) (replaced_all _ _ e l v.invariant.0) (replaced_all _ _ e l v.invariant.1)
