-- The table is Table 1.
-- Assumes nothing.
use mathlib.Core.Path.{ap₂}
use mathlib.Core.List.{List}
use Prim.Native.Nat.{ℕ}
use lib.ListN.{get_or}
use Rattle.field.specs.Substitution.{sub}
use Rattle.tables.proofs.substitute.Goals as goal

pub returns : goal.returns
unfolding sub
returns c = ap₂ (λ (s : List ℕ) (b : ℕ). get_or s b 0) c.sbox-s.ensures c.from.ensures
