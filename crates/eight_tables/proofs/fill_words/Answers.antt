-- After i turns the first i words of each table are there.
-- Assumes nothing.
use mathlib.Core.Path.{◌≡◌}
use native.Mathlib.Omega.{arith}
use Rattle.eight_tables.proofs.Making.{filling_none, filling_more, filling_all}
use Rattle.eight_tables.proofs.fill_words.Goals as goal

pub loop-i-init : goal.loop-i-init
loop-i-init c = filling_none _ c.requires.1

pub loop-i-preserved : goal.loop-i-preserved
loop-i-preserved c =
    let l = c.loop-i in
    filling_more _ l.i c.spread.ensures l.invariant

pub returns-clause-table : goal.returns-clause-table
returns-clause-table c =
    let l = c.loop-i in
    let e : l.i ≡ 256 = omega arith in
    filling_all _ e l.invariant
