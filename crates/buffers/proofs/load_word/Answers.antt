-- The word where it has room, and 0 where it has none.
-- Assumes nothing.
use native.Mathlib.Omega.{arith}
use Rattle.buffers.proofs.Words.{word_none, word_loaded}
use Rattle.buffers.proofs.load_word.Goals as goal

pub returns-then-not-is_inside : goal.returns-then-not-is_inside
returns-then-not-is_inside c = word_none _ _ (grind arith)

pub returns-in-Some : goal.returns-in-Some
returns-in-Some c = word_loaded c.args.s.now c.args.at (omega arith) (omega arith) c.in-Some.ensures.cases.same c.from_le_bytes.ensures
