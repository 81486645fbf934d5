-- The code's own forms, which no reader has to believe: what chaining blocks turns away.
-- Assumes nothing.
use Rattle.std.specs.Prelude.{ℕ, ◌*◌, ◌%◌, eqb}
use Rattle.forms.specs.Refusals.{unless}
use Rattle.labyrinth.specs.Refusals.{legal}

-- chaining: 1 if n is illegal, 6 if what stands before the first block isn't a block, 4 if the source isn't whole blocks, 5 if the destination isn't as long
unfoldable pub chain_refusal : ℕ → ℕ → ℕ → ℕ → ℕ
chain_refusal n before source destination = unless (legal n) 1 (unless (eqb before (16 * n)) 6 (unless (eqb (source % (16 * n)) 0) 4 (unless (eqb destination source) 5 0)))
