-- Forms that the definitions share. A byte is a number below 2 ^ 8, a word a number below 2 ^ 64; XOR is the library's bit_xor.
-- Assumes nothing.
use Rattle.std.specs.Prelude.{ℕ, zero, suc, ◌+◌, Bool, true, false, not, ◌&&◌, ◌||◌, List, [], ◌∷◌, ◌++◌, eqb, ltb, length, get_or, drop}
use Rattle.std.specs.Int.Bits.{bit_xor}

-- the list f 0, f 1, .., f (n - 1)
unfoldable pub tabulate : {A : Type 0} → ℕ → (ℕ → A) → List A
tabulate zero f = []
tabulate (suc n) f = f 0 ∷ tabulate n (λ k. f (suc k))

-- f 0 XOR f 1 XOR .. XOR f (n - 1)
unfoldable pub xor_sum : ℕ → (ℕ → ℕ) → ℕ
xor_sum zero f = 0
xor_sum (suc n) f = bit_xor (xor_sum n f) (f n)

-- x where the test holds, else y
abbrev pub when : {A : Type 0} → Bool → A → A → A
when true x y = x
when false x y = y

-- x where the test holds, else 0
unfoldable pub pick : Bool → ℕ → ℕ
pick true x = x
pick false x = 0

-- f, n times
unfoldable pub iterate : ℕ → (ℕ → ℕ) → ℕ → ℕ
iterate zero f x = x
iterate (suc n) f x = f (iterate n f x)

-- n words of a list, from a place on
unfoldable pub words_from : ℕ → ℕ → List ℕ → List ℕ
words_from n at ws = tabulate n (λ i. get_or ws (at + i) 0)

-- what a buffer holds once bytes were written over its front: those past them stay
abbrev pub over : List ℕ → List ℕ → List ℕ
over written before = written ++ drop (length written) before

-- y stands in the list
unfoldable pub has : ℕ → List ℕ → Bool
has y [] = false
has y (x ∷ s) = eqb x y || has y s

-- no number stands in it twice
unfoldable pub distinct : List ℕ → Bool
distinct [] = true
distinct (x ∷ s) = not (has x s) && distinct s

-- every number is below n
unfoldable pub below : ℕ → List ℕ → Bool
below n [] = true
below n (x ∷ s) = ltb x n && below n s

-- some element passes a test
unfoldable pub any : {A : Type 0} → (A → Bool) → List A → Bool
any test [] = false
any test (x ∷ xs) = test x || any test xs

-- the place of the first element that passes a test, the first of the list standing at the place `at`; the place behind the last if none passes
unfoldable pub first_from : {A : Type 0} → (A → Bool) → ℕ → List A → ℕ
first_from test at [] = at
first_from test at (x ∷ xs) = when (test x) at (first_from test (suc at) xs)

-- the last element; d of an empty list
unfoldable pub last : {A : Type 0} → A → List A → A
last d [] = d
last d (x ∷ xs) = last x xs
