-- The three sizes: what holds of 1, 2 and 4 holds of every legal n.
-- Assumes nothing.
use mathlib.Core.Path.{◌≡◌, refl}
use mathlib.Core.Bool.{true, false}
use Prim.Native.Nat.{ℕ, zero, suc}
use native.Mathlib.Nat.{not-suc-le-zero}
use native.Mathlib.Omega.{arith}
use borrow.Author.Tests.{ne_eqb}
use Rattle.labyrinth.specs.Refusals.{legal}
use Rattle.labyrinth.specs.Working.{Size}

pub sizes : (P : ℕ → Type 0) → P 1 → P 2 → P 4 → (n : ℕ) → Size n → P n
sizes P a b d zero s = absurd (not-suc-le-zero s.pos)
sizes P a b d (suc zero) s = a
sizes P a b d (suc (suc zero)) s = b
sizes P a b d (suc (suc (suc zero))) s = absurd (s.not_three refl)
sizes P a b d (suc (suc (suc (suc zero)))) s = d
sizes P a b d (suc (suc (suc (suc (suc n))))) s = absurd (omega (arith, s.top))

pub legal_size : (n : ℕ) → Size n → legal n ≡ true
unfolding legal
legal_size = sizes (λ n. legal n ≡ true) refl refl refl

pub illegal : (n : ℕ) → (n ≡ 1 → ⊥) → (n ≡ 2 → ⊥) → (n ≡ 4 → ⊥) → legal n ≡ false
unfolding legal
illegal n a b d = rw (ne_eqb n 1 a, ne_eqb n 2 b, ne_eqb n 4 d)

pub size_one : Size 1
size_one = record { pos = omega arith; top = omega arith; not_three = λ e. omega arith }

pub size_two : Size 2
size_two = record { pos = omega arith; top = omega arith; not_three = λ e. omega arith }

pub size_four : Size 4
size_four = record { pos = omega arith; top = omega arith; not_three = λ e. omega arith }
