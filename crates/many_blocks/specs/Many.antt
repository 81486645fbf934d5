-- The code's own forms, which no reader has to believe: what mapping many blocks turns away.
-- Assumes nothing.
use Rattle.std.specs.Prelude.{ℕ, ◌*◌, ◌%◌, eqb}
use Rattle.forms.specs.Refusals.{unless}
use Rattle.labyrinth.specs.Refusals.{legal}

-- mapping many blocks: 1 if n is illegal, 4 if the source isn't whole blocks or the mask isn't as long, 5 if the destination isn't
unfoldable pub many_refusal : ℕ → ℕ → ℕ → ℕ → ℕ
many_refusal n source mask destination = unless (legal n) 1 (unless (eqb (source % (16 * n)) 0) 4 (unless (eqb mask source) 4 (unless (eqb destination source) 5 0)))
