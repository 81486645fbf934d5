-- Byte z - 1 is asked to be zero, and if that leaves no such word it is not.
-- Assumes nothing.
use native.Mathlib.Omega.{arith}
use Rattle.judge.proofs.Counts.{found_all, found_few, found_first, found_second}
use Rattle.judge.proofs.+search.Goals as goal

pub returns-then-n-eq0 : goal.returns-then-n-eq0
returns-then-n-eq0 t c = found_all _ _ _ _ _ c.if-n-eq0.true c.word_left.ensures

pub returns-then-z-n : goal.returns-then-z-n
returns-then-z-n t c = found_few _ _ _ _ (omega arith)

pub returns-then-r-ne0 : goal.returns-then-r-ne0
returns-then-r-ne0 t c =
    found_first _ _ _ _ _ _ _ (omega arith) (omega arith) c.byte_row.ensures c.restrict.ensures c.search-r.ensures c.if-r-ne0.true

pub returns : goal.returns
returns t c =
    found_second _ _ _ _ _ _ _ (omega arith) (omega arith) c.byte_row.ensures c.restrict.ensures _ c.search-r.ensures c.if-r-ne0.false
    c.search.ensures
