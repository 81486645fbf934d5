-- At a place (i + 2) n of the schedule i iterations are done.
-- Assumes nothing.
use Rattle.std.proofs.Common.{arith}
use Rattle.labyrinth.proofs.Rounds.{ran_none, ran_inside, ran_more, ran_all}
use Rattle.table_rounds.proofs.rounds_of.Goals as goal

pub loop-at-init : goal.loop-at-init
loop-at-init c = let p = c.requires in ran_none _ _ p.0 _ _ p.2 p.3

pub round-requires : goal.round-requires
round-requires c =
    let p = c.loop-at.invariant in
    (c.requires.0, ran_inside _ _ c.requires.0 _ _ c.requires.2 c.requires.3 (omega arith) p, c.requires.1, p.high, p.low, c.requires.4)

pub overflow_add-at : goal.overflow_add-at
overflow_add-at c =
    omega (arith, ran_inside _ _ c.requires.0 _ _ c.requires.2 c.requires.3 (omega arith) c.loop-at.invariant)

pub loop-at-preserved : goal.loop-at-preserved
loop-at-preserved c =
    ran_more _ _ c.requires.0 _ _ c.requires.2 c.requires.3 (omega arith) c.round.ensures c.loop-at.invariant

pub returns : goal.returns
returns c =
    ran_all _ _ c.requires.0 _ _ c.requires.2 c.requires.3 (omega arith) c.loop-at.invariant
