-- The rows below the index are zeros; an element that isn't makes its column a word.
-- Assumes nothing.
use mathlib.Core.List.{[]}
use Prim.Native.Nat.{ℕ, ◌<◌}
use lib.ListN.{get_or}
use Rattle.judge.specs.Elimination.{Zeros}
use Rattle.judge.proofs.word_left.Given as goal

abbrev pub invariant-loop-row : goal.invariant-loop-row
invariant-loop-row l = (k : ℕ) → k < l.row-index → Zeros (get_or l.fn.a k [])
