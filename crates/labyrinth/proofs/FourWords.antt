-- An array of four words that a loop fills from zeros: after i turns it is `four_words` of the first i words.
-- Assumes nothing.
use mathlib.Core.Path.{◌≡◌, refl, ap, ap₂, ◌∙◌}
use mathlib.Core.List.{List, [], ◌∷◌, ◌++◌}
use Prim.Native.Nat.{ℕ, zero, suc, ◌+◌, ◌-◌, ◌≤◌, ◌<◌}
use native.Mathlib.Omega.{arith}
use lib.ListN.{length, get_or, take, set, replicate, get_or-append}
use lib.Seq.{take_at, take-take, get_or-take}
use Rattle.forms.specs.Lists.{tabulate}
use Rattle.forms.proofs.Lists.{length_tabulate}
use Rattle.labyrinth.specs.Working.{four_words}

pub four_none : (f : ℕ → ℕ) → 0 ∷ 0 ∷ 0 ∷ 0 ∷ [] ≡ four_words (tabulate 0 f)
unfolding four_words tabulate
four_none f = refl

pub get_or_four : (x : List ℕ) (i : ℕ) → i < length x → i < 4 → get_or (four_words x) i 0 ≡ get_or x i 0
unfolding four_words
get_or_four x i h l = get_or-take 4 (x ++ replicate 4 0) i 0 l ∙ get_or-append x (replicate 4 0) 0 i h

pub take_four : (n : ℕ) (x : List ℕ) → length x ≡ n → n ≤ 4 → take n (four_words x) ≡ x
unfolding four_words
take_four n x e h = take-take n 4 (x ++ replicate 4 0) h ∙ take_at x (replicate 4 0) n e

-- one word more, as a loop stores it
pub four_more : (f : ℕ → ℕ) (j : ℕ) {x : List ℕ} {v : ℕ} → j < 4 → x ≡ four_words (tabulate j f) → v ≡ f j → set x j v ≡ four_words (tabulate (j + 1) f)
unfolding four_words tabulate
four_more f j {x} {v} h e p = ap₂ (λ (y : List ℕ) (w : ℕ). set y j w) e p ∙ stored j h
  where
    stored : (j : ℕ) → j < 4 → set (four_words (tabulate j f)) j (f j) ≡ four_words (tabulate (j + 1) f)
    stored zero h = refl
    stored (suc zero) h = refl
    stored (suc (suc zero)) h = refl
    stored (suc (suc (suc zero))) h = refl
    stored (suc (suc (suc (suc j)))) h = let z : ⊥ = omega arith in absurd z

-- where a loop has ended
pub four_end : {m n : ℕ} (f : ℕ → ℕ) {x : List ℕ} → m ≡ n → x ≡ four_words (tabulate m f) → x ≡ four_words (tabulate n f)
four_end f e p = p ∙ ap (λ (k : ℕ). four_words (tabulate k f)) e

-- its first n words, where n words were tabulated
pub taken : (n : ℕ) (f : ℕ → ℕ) {r : List ℕ} → n ≤ 4 → r ≡ four_words (tabulate n f) → take n r ≡ tabulate n f
taken n f h e = ap (take n) e ∙ take_four n (tabulate n f) (length_tabulate n f) h
