-- Is a row good enough? (document 02, Job 6) "for every word that isn't zero, its non-zero bytes before and after mixing together number nine or
-- more. Mixing here is the matrix product, for rows that Job 4 refuses too." So mixing is the article's `mix`, by any row.
-- The article's 1.2 calls the least of these numbers, over all words that aren't zero, the number of activation branches (branch number). For eight
-- bytes it is nine at most, and a cyclic matrix that has nine is called CMBN; 4.3 says of its row that a word has nine active bytes at least in sum,
-- before and after the transformation.
-- Assumes nothing.
use Rattle.std.specs.Prelude.{ℕ, zero, suc, ◌+◌, ◌^◌, ◌≤◌, ◌<◌, ◌≡◌, true, false, ◌↔◌, List, eqb}
use Rattle.forms.specs.Lists.{when}
use Rattle.forms.specs.Words.{byte}
use Rattle.field.specs.Mixing.{mix}
use Rattle.judge.specs.declared.Verdict.{Verdict}

-- how many of f 0, f 1, .., f (n - 1) are not zero
unfoldable pub nonzero : ℕ → (ℕ → ℕ) → ℕ
nonzero zero f = 0
nonzero (suc n) f = nonzero n f + when (eqb (f n) 0) 0 1

-- 1.2: a word's non-zero bytes, called active
unfoldable pub active_bytes : ℕ → ℕ
active_bytes w = nonzero 8 (byte w)

-- 1.2: a word's non-zero bytes before and after mixing together
unfoldable pub together : List ℕ → ℕ → ℕ
together g w = active_bytes w + active_bytes (mix g w)

-- 1.2, 4.3: every word that isn't zero has nine or more
abbrev pub GoodEnough : List ℕ → Type 0
GoodEnough g = (w : ℕ) → w < 2 ^ 64 → (w ≡ 0 → ⊥) → 9 ≤ together g w

-- a word that isn't zero and has fewer
abbrev pub FallsShort : List ℕ → ℕ → Type 0
FallsShort g w = (w < 2 ^ 64) × (w ≡ 0 → ⊥) × (together g w < 9)

-- "It says yes precisely when all words meet this, and with a no it shows one word that falls short (any will do; with a yes, the zero word)."
-- Which word is shown with a no is left open.
abbrev pub Judged : List ℕ → Verdict → Type 0
Judged g v = ((v.yes ≡ true) ↔ GoodEnough g) × (v.yes ≡ true → v.word ≡ 0) × (v.yes ≡ false → FallsShort g v.word)
