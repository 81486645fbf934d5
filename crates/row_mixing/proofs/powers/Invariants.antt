-- The powers below the index are there, and x is the next.
-- Assumes nothing.
use mathlib.Core.Path.{◌≡◌}
use Prim.Native.Nat.{ℕ, ◌<◌}
use lib.ListN.{get_or, length}
use Rattle.forms.specs.Lists.{iterate}
use Rattle.forms.specs.Words.{each_byte}
use Rattle.field.specs.Field.{times_x}
use Rattle.row_mixing.proofs.powers.Given as goal

abbrev pub invariant-loop-power : goal.invariant-loop-power
invariant-loop-power l =
    let power : ℕ → ℕ = λ k. iterate k (each_byte times_x) l.w in
    (length l.power-items ≡ 8) × (l.x ≡ power l.power-index) × ((k : ℕ) → k < l.power-index → get_or l.power-items k 0 ≡ power k)
