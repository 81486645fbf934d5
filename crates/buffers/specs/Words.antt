-- The code's own forms, which no reader has to believe, but whoever lends records to the library for C: a word in a buffer of bytes, the least byte
-- first, at any place, with or without room for it. The code's way to `words` and `bytes` of forms.
-- Assumes nothing.
use Rattle.std.specs.Prelude.{ℕ, ◌+◌, Bool, List, ◌++◌, leb, get_or, length, take, drop}
use Rattle.forms.specs.Lists.{tabulate, pick, when}
use Rattle.forms.specs.Words.{byte, join}

-- a word has room at a place of a buffer of so many bytes
unfoldable pub inside : ℕ → ℕ → Bool
inside at size = leb (at + 8) size

-- the word there; 0 where it has no room
unfoldable pub word_at : List ℕ → ℕ → ℕ
word_at s at = pick (inside at (length s)) (join 8 (λ b. get_or s (at + b) 0))

-- the buffer with a word put there; as it was where the word has no room
unfoldable pub with_word : ℕ → ℕ → List ℕ → List ℕ
with_word at w d = when (inside at (length d)) (take at d ++ (tabulate 8 (byte w) ++ drop (at + 8) d)) d
