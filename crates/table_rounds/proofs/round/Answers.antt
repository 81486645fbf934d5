-- After j turns the first j words of both halves are the new ones.
-- Assumes nothing.
use Rattle.std.proofs.Common.{◌≡◌, refl, arith}
use Rattle.labyrinth.proofs.Rounds.{turned_none, turned_more, turned_all}
use Rattle.table_rounds.proofs.round.Goals as goal

pub loop-j-init : goal.loop-j-init
loop-j-init c = (omega arith, turned_none _ _ _ _ _)

pub f_word-v-requires : goal.f_word-v-requires
f_word-v-requires c = let p = c.requires in (p.0, omega arith, p.5)

pub loop-j-preserved : goal.loop-j-preserved
loop-j-preserved c =
    let l = c.loop-j in
    (omega arith, turned_more _ _ _ _ _ l.j (omega arith) (omega arith) c.f_word-v.ensures c.requires.2 refl l.invariant.1)

pub returns : goal.returns
returns c =
    let e : c.loop-j.j ≡ c.args.n = omega arith in
    turned_all _ _ _ _ _ _ (omega arith) (omega arith) c.add_key-y.ensures e c.loop-j.invariant.1
