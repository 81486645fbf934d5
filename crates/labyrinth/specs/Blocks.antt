-- Half-blocks and blocks (the article's sections 1.1, 1.2 and 2.1). A half-block is a list of n words, word 0 first;
-- a block is a pair < L || R >: .0 is the left half L, the high one, and .1 the right half R, the low one.
-- Assumes nothing.
use Rattle.std.specs.Prelude.{ℕ, ◌+◌, ◌-◌, ◌*◌, ◌%◌, ◌^◌, List, ◌++◌, get_or, drop}
use Rattle.forms.specs.Words.{words, bytes}
use Rattle.forms.specs.Lists.{tabulate}

abbrev pub Block : Type 0
Block = List ℕ × List ℕ

-- 2.1: the sum and the difference of two words modulo 2 ^ 64
abbrev pub plus : ℕ → ℕ → ℕ
plus a b = (a + b) % 2 ^ 64

abbrev pub minus : ℕ → ℕ → ℕ
minus a b = (a + 2 ^ 64 - b) % 2 ^ 64

-- 2.1: f at each of n words
unfoldable pub each : ℕ → (ℕ → ℕ) → List ℕ → List ℕ
each n f x = tabulate n (λ j. f (get_or x j 0))

-- 2.1: f of the words of x and y that have the same number, as x [+] y with the superscript n
unfoldable pub zip : ℕ → (ℕ → ℕ → ℕ) → List ℕ → List ℕ → List ℕ
zip n f x y = tabulate n (λ j. f (get_or x j 0) (get_or y j 0))

-- 1.2: a block is < L || R >; document 01: 'The low half R of a block is its first 8n bytes, the high half L the rest.'
unfoldable pub load : ℕ → List ℕ → Block
load n bs = (words n (drop (8 * n) bs), words n bs)

unfoldable pub store : ℕ → Block → List ℕ
store n s = bytes n s.1 ++ bytes n s.0
