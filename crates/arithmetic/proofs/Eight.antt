-- Arrays of eight, as the calls of a closure make them.
-- Assumes nothing.
use mathlib.Core.Path.{◌≡◌}
use mathlib.Core.List.{List}
use Prim.Native.Nat.{ℕ, ◌+◌, ◌<◌}
use native.Mathlib.Nat.{not-suc-le-zero}
use native.Mathlib.Omega.{arith}
use borrow.Author.Count.{below_more}
use lib.ListN.{get_or, length}
use Rattle.std.specs.Int.{w64, from_le_bytes}
use Rattle.forms.specs.Lists.{tabulate}
use Rattle.forms.specs.Words.{join}
use Rattle.forms.proofs.Lists.{tabulated}

-- the eight entries, as `search rules` reads them off the calls
abbrev pub Entries : {A : Type 0} → (ℕ → A) → A → List A → Type 0
Entries f d xs =
    let Is : ℕ → Type 0 = λ k. get_or xs k d ≡ f k in Is 0 × Is 1 × Is 2 × Is 3 × Is 4 × Is 5 × Is 6 × Is 7

pub of_eight : {A : Type 0} (f : ℕ → A) (d : A) (xs : List A) → length xs ≡ 8 → Entries f d xs → xs ≡ tabulate 8 f
of_eight {A} f d xs n (e0, e1, e2, e3, e4, e5, e6, e7) =
    tabulated 8 f d xs n (more 7 (more 6 (more 5 (more 4 (more 3 (more 2 (more 1 (more 0 (λ k h. absurd (not-suc-le-zero h)) e0) e1) e2) e3) e4) e5) e6) e7)
  where
    more : (i : ℕ) → ((k : ℕ) → k < i → get_or xs k d ≡ f k) → get_or xs i d ≡ f i → (k : ℕ) → k < i + 1 → get_or xs k d ≡ f k
    more = below_more (λ k. get_or xs k d ≡ f k)

-- the word that is made of them
pub joined_eight : (f : ℕ → ℕ) (bs : List ℕ) → Entries f 0 bs → from_le_bytes w64 bs ≡ join 8 f
unfolding join
joined_eight f bs (e0, e1, e2, e3, e4, e5, e6, e7) = omega (arith, e0, e1, e2, e3, e4, e5, e6, e7)
