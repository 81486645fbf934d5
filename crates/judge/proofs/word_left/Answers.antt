-- The rows below the index are zeros; an element that isn't makes its column a word.
-- Assumes nothing.
use native.Mathlib.Omega.{arith}
use Rattle.judge.proofs.Elimination.{left_none, left_some}
use Rattle.judge.proofs.word_left.Goals as goal

pub returns-in-Some : goal.returns-in-Some
returns-in-Some c =
    let v = c.in-Some.ensures in left_some c.args.a c.loop-row.row-index c.in-Some.p (omega arith) v.inside v.some v.small c.mix_by.ensures

pub returns : goal.returns
returns c = left_none _ (λ k l. c.loop-row.invariant k (omega arith))
