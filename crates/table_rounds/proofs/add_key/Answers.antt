-- After j turns the first j words are the sums.
-- Assumes nothing.
use Rattle.std.proofs.Common.{◌≡◌, arith}
use Rattle.forms.proofs.Lists.{replaced_none, replaced_more}
use Rattle.labyrinth.proofs.Rounds.{added}
use Rattle.table_rounds.proofs.add_key.Goals as goal

pub loop-j-init : goal.loop-j-init
loop-j-init c = (omega arith, replaced_none _ _)

pub loop-j-preserved : goal.loop-j-preserved
loop-j-preserved c =
    let l = c.loop-j in
    (omega arith, replaced_more _ _ l.j (omega arith) c.wrapping_add_u64.ensures.value l.invariant.1)

pub returns : goal.returns
returns c = let e : c.loop-j.j ≡ c.args.n = omega arith in added _ _ _ _ _ e c.loop-j.invariant.1
