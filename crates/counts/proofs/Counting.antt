-- std's count of the bytes that pass a test is the definition's.
-- Assumes nothing.
use mathlib.Core.Path.{◌≡◌, refl}
use mathlib.Core.Bool.{Bool, true, false, not, cond}
use Prim.Native.Nat.{ℕ}
use native.Mathlib.Omega.{arith}
use lib.Dec.{eqb}
use Rattle.std.specs.List.{count_by}
use Rattle.forms.specs.Lists.{tabulate, when}
use Rattle.judge.specs.Judge.{nonzero}

one : (t : Bool) → ◌≡◌ {A = ℕ} (cond (not t) 1 0) (when t 0 1)
one true = refl
one false = refl

pub counted : (f : ℕ → ℕ) → count_by (λ b. not (eqb b 0)) (tabulate 8 f) ≡ nonzero 8 f
unfolding tabulate nonzero
counted f =
    let is = λ (k : ℕ). one (eqb (f k) 0) in omega (arith, is 0, is 1, is 2, is 3, is 4, is 5, is 6, is 7)
