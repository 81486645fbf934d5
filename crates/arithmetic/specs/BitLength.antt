-- The bit length of a number (document 02, Job 3: the field's product ends after the multiplier's highest one). No part of the article.
-- Assumes nothing.
use Rattle.std.specs.Prelude.{ℕ, zero, suc, ◌/◌, ◌%◌, ◌^◌, eqb}
use Rattle.forms.specs.Lists.{when}

-- of the n low bits of b, bit k, counted from 0, being b / 2 ^ k % 2: one more than the place of the highest that is 1, and 0 where none is
unfoldable pub bit_length : ℕ → ℕ → ℕ
bit_length zero b = 0
bit_length (suc k) b = when (eqb (b / 2 ^ k % 2) 1) (suc k) (bit_length k b)
