-- The code's own forms, which no reader has to believe: counter blocks one after another, which the key stream is made of.
-- Assumes nothing.
use Rattle.std.specs.Prelude.{ℕ, zero, suc, ◌+◌, List, [], ◌++◌}
use Rattle.modes.specs.Ctr.{counter}

-- m counter blocks, the first that of v
unfoldable pub counter_blocks : ℕ → List ℕ → ℕ → ℕ → List ℕ
counter_blocks z start v zero = []
counter_blocks z start v (suc m) = counter z start v ++ counter_blocks z start (v + 1) m
