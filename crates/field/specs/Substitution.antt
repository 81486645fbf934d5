-- The substitution (the article's section 3.7). It is a list s of 256 bytes: the published one, Table 1, stands in Published.
-- Assumes nothing.
use Rattle.std.specs.Prelude.{◌≡◌, ℕ, suc, ◌^◌, ◌<◌, Bool, true, false, ◌&&◌, List, [], ◌∷◌, eqb, get_or, length}
use Rattle.forms.specs.Lists.{tabulate, below, distinct}

-- 3.7: S(x) stands at place x of the list
unfoldable pub sub : List ℕ → ℕ → ℕ
sub s x = get_or s x 0

-- 3.7: the inverse of S at y is the place where y stands in the list, counted from 0: the first such place; the list's length where y isn't in it
unfoldable pub sub_inv : List ℕ → ℕ → ℕ
sub_inv [] y = 0
sub_inv (x ∷ s) y = elim (eqb x y) [ true ↦ 0 | false ↦ suc (sub_inv s y) ]

-- the inverse as a list of 256 numbers, bytes if s is 256 different bytes. Else it is no inverse: for a byte that s has twice it gives the first
-- place, and for one that s hasn't the length of s, which is no byte if s has 256 entries
unfoldable pub invert : List ℕ → List ℕ
invert s = tabulate 256 (sub_inv s)

-- document 02, Job 7: '256 different bytes'
unfoldable pub different : List ℕ → Bool
different s = eqb (length s) 256 && (below 256 s && distinct s)

-- the same in plain terms
abbrev pub Different : List ℕ → Type 0
Different s = (length s ≡ 256) × ((i : ℕ) → get_or s i 0 < 2 ^ 8) × ((i j : ℕ) → i < 256 → j < 256 → get_or s i 0 ≡ get_or s j 0 → i ≡ j)
