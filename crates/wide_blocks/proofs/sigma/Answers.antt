-- After j turns the words below j are there.
-- Assumes nothing.
use Rattle.std.proofs.Common.{ℕ, ◌∙◌, arith}
use Rattle.std.proofs.lemmas.List.{length-replicate}
use Rattle.forms.proofs.Lists.{replaced_none, replaced_more, replaced_all}
use Rattle.wide_blocks.proofs.Ends.{sigma_first, sigma_later}
use Rattle.wide_blocks.proofs.sigma.Goals as goal
use Rattle.wide_blocks.proofs.sigma.Goals.{then-first, else-first}

pub loop-j-init : goal.loop-j-init
loop-j-init g c = replaced_none _ _

pub loop-j-preserved : goal.loop-j-preserved
loop-j-preserved g c =
    let v = c.loop-j in
    let x = c.args.x in
    replaced_more _ _ v.j (omega (arith, length-replicate {A = ℕ} g.row.N 0))
    (elim c.if-first.branch [
      | then-first w ↦ sigma_first (x.high, x.low) v.j w.if-first.true (w.d-is ∙ w.rotate_left.ensures)
      | else-first w ↦ sigma_later (x.high, x.low) v.j w.if-first.false w.d-is
    ])
    v.invariant

pub returns : goal.returns
returns g c = replaced_all _ _ (omega arith) (length-replicate {A = ℕ} g.row.N 0) c.loop-j.invariant
