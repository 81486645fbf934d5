-- The number of lent registers, in plain terms and as the code makes the checks.
-- Assumes nothing.
use mathlib.Core.Path.{◌≡◌}
use mathlib.Core.Bool.{◌&&◌}
use Prim.Native.Nat.{ℕ}
use borrow.Author.Tests.{eq-eqb, ne_eqb}
use lib.Dec.{eqb}
use Rattle.forms.specs.Refusals.{Unless}
use Rattle.forms.proofs.Booleans.{eqb_iff, and_iff}
use Rattle.forms.proofs.Refusals.{unless_plain}
use Rattle.register_layout.specs.Numbers.{register_number}

module _ (register beside size further : ℕ) where
  -- in plain terms: 4 unless both have their lengths, then the further checks
  pub register_plain : {more : Type 0} {r : ℕ} → r ≡ register_number register beside size further → (r ≡ further → more)
      → Unless ((register ≡ 2824) × (beside ≡ size)) (r ≡ 4) more
  unfolding register_number
  register_plain e f =
      unless_plain (eqb register 2824 && eqb beside size) 4 further e (and_iff (eqb register 2824) (eqb beside size) (eqb_iff register 2824) (eqb_iff beside size)) f

  -- as the code makes the checks
  pub register_refused : (register ≡ 2824 → ⊥) → 4 ≡ register_number register beside size further
  unfolding register_number
  register_refused h = rw (ne_eqb register 2824 h)

  pub beside_refused : register ≡ 2824 → (beside ≡ size → ⊥) → 4 ≡ register_number register beside size further
  unfolding register_number
  beside_refused h g = rw (eq-eqb register 2824 h, ne_eqb beside size g)

  pub register_passed : register ≡ 2824 → beside ≡ size → further ≡ register_number register beside size further
  unfolding register_number
  register_passed h g = rw (eq-eqb register 2824 h, eq-eqb beside size g)
