-- A test that antt computes at every number below n, and what it says of each.
-- Assumes nothing.
use mathlib.Core.Path.{◌≡◌}
use mathlib.Core.Bool.{Bool, true, false}
use mathlib.Core.Logic.{⊎_elim}
use Prim.Native.Nat.{ℕ, zero, suc, ◌<◌}
use native.Mathlib.Nat.{le_of_suc-le-suc, not-suc-le-zero, eq-or-lt_of_le}
use lib.Dec.{T, eqb, eqb→eq}

abbrev pub both : Bool → Bool → Bool
both true b = b
both false b = false

pub both_left : (a b : Bool) → T (both a b) → T a
both_left true b t = tt
both_left false b t = t

pub both_right : (a b : Bool) → T (both a b) → T b
both_right true b t = t
both_right false b t = absurd t

-- f passes at each number below n
abbrev pub all : ℕ → (ℕ → Bool) → Bool
all zero f = true
all (suc n) f = both (f n) (all n f)

pub tested_at : (n : ℕ) (f : ℕ → Bool) → T (all n f) → (k : ℕ) → k < n → T (f k)
tested_at zero f t k h = absurd (not-suc-le-zero h)
tested_at (suc n) f t k h =
    ⊎_elim (λ (e : k ≡ n). rw e (both_left (f n) (all n f) t)) (λ (l : k < n). tested_at n f (both_right (f n) (all n f) t) k l)
    (eq-or-lt_of_le (le_of_suc-le-suc h))

-- two functions agree below n
pub tested_agree : (n : ℕ) (f g : ℕ → ℕ) → T (all n (λ k. eqb (f k) (g k))) → (k : ℕ) → k < n → f k ≡ g k
tested_agree n f g t k h = eqb→eq (f k) (g k) (tested_at n (λ k. eqb (f k) (g k)) t k h)
