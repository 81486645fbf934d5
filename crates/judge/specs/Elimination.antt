-- The code's own forms, which no reader has to believe: what the judge's steps do, its way to `Judged`. A matrix gives a word that is its product with some word, the
-- word of the unknowns, and keeps a word that is its product with that word itself.
-- Assumes nothing.
use Rattle.std.specs.Prelude.{ℕ, ◌+◌, ◌-◌, ◌^◌, ◌≤◌, ◌<◌, ◌≡◌, List, [], ltb, get_or}
use Rattle.std.specs.Int.Bits.{bit_xor}
use Rattle.forms.specs.Lists.{tabulate, when}
use Rattle.forms.specs.Words.{byte}
use Rattle.field.specs.Field.{mul}
use Rattle.field.specs.Mixing.{dot, mix_by}
use Rattle.judge.specs.Judge.{nonzero}

-- the row x plus c times the row y
unfoldable pub combined : List ℕ → ℕ → List ℕ → List ℕ
combined x c y = tabulate 8 (λ j. bit_xor (get_or x j 0) (mul (get_or y j 0) c))

-- to every row of a matrix its element p times the row y is added
unfoldable pub cleared : List (List ℕ) → ℕ → List ℕ → List (List ℕ)
cleared a p y = tabulate 8 (λ i. combined (get_or a i []) (get_or (get_or a i []) p 0) y)

-- a row's elements are zero
abbrev pub Zeros : List ℕ → Type 0
Zeros y = (j : ℕ) → j < 8 → get_or y j 0 ≡ 0

-- a row's element p, a byte, is not zero
pub record Pivot (y : List ℕ) (p : ℕ) : Type 0 where
  pub inside : p < 8
  pub small : get_or y p 0 < 2 ^ 8
  pub some : get_or y p 0 ≡ 0 → ⊥

-- r gives what a gives at the words where y gives 0: the same there, and nothing else
pub record Restricted (a : List (List ℕ)) (y : List ℕ) (r : List (List ℕ)) : Type 0 where
  pub same : (w : ℕ) → dot y w ≡ 0 → mix_by r w ≡ mix_by a w
  pub within : (w : ℕ) → (v : ℕ) × (mix_by r w ≡ mix_by a v) × (dot y v ≡ 0)

-- byte z of the sixteen: a word's bytes, then those of the word mixed by m
unfoldable pub sixteen : List (List ℕ) → ℕ → ℕ → ℕ
sixteen m w z = when (ltb z 8) (byte w z) (byte (mix_by m w) (z - 8))

-- r is given by a, and is zero only if a gives no other word
pub record Left (a : List (List ℕ)) (r : ℕ) : Type 0 where
  pub given : (w : ℕ) × (r ≡ mix_by a w)
  pub none : r ≡ 0 → (w : ℕ) → mix_by a w ≡ 0

-- r is given by a and, unless it is zero, has n zeros or more among the first z of the sixteen bytes; it is zero only if every other word that a
-- keeps has fewer
pub record Found (m a : List (List ℕ)) (n z r : ℕ) : Type 0 where
  pub given : (w : ℕ) × (r ≡ mix_by a w)
  pub enough : (r ≡ 0 → ⊥) → nonzero z (sixteen m r) + n ≤ z
  pub none : r ≡ 0 → (w : ℕ) → (w ≡ 0 → ⊥) → mix_by a w ≡ w → z < nonzero z (sixteen m w) + n
