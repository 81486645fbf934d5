-- After j turns the words below j are there.
-- Assumes nothing.
use Rattle.std.proofs.Common.{ℕ, arith, get_or}
use Rattle.std.proofs.lemmas.List.{length-replicate}
use Rattle.forms.proofs.Lists.{replaced_none, replaced_more, replaced_all}
use Rattle.labyrinth.specs.Blocks.{zip}
use Rattle.wide_blocks.proofs.Iterations.{sum_word}
use Rattle.wide_blocks.proofs.keyed.Goals as goal

pub loop-j-init : goal.loop-j-init
loop-j-init g c = replaced_none _ _

pub loop-j-preserved : goal.loop-j-preserved
loop-j-preserved g c =
    let v = c.loop-j in
    replaced_more _ _ v.j (omega (arith, length-replicate {A = ℕ} g.row.N 0, v.auto.j-end)) (sum_word g.row.N c.args.at c.args.ks.now (get_or c.args.x v.j 0) v.j (omega arith)) v.invariant

pub returns : goal.returns
unfolding zip
returns g c = replaced_all _ _ (omega arith) (length-replicate {A = ℕ} g.row.N 0) c.loop-j.invariant
