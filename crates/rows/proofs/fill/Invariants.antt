-- The words below the index are there.
-- Assumes nothing.
use mathlib.Core.Path.{◌≡◌}
use Prim.Native.Nat.{ℕ, ◌<◌}
use lib.ListN.{get_or}
use Rattle.field.specs.Substitution.{sub}
use Rattle.field.specs.Mixing.{scale}
use Rattle.rows.proofs.fill.Given as goal

abbrev pub invariant-loop-b : goal.invariant-loop-b
invariant-loop-b l = (k : ℕ) → k < l.b → get_or l.table k 0 ≡ scale (sub l.s k) l.row
