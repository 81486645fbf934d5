-- The table is Table 1's inverse.
-- Assumes nothing.
use mathlib.Core.Path.{ap₂, ◌∙◌}
use mathlib.Core.List.{List}
use Prim.Native.Nat.{ℕ}
use native.Mathlib.Omega.{arith}
use lib.ListN.{get_or}
use Rattle.field.specs.Substitution.{sub}
use Rattle.field.specs.Published.{table1}
use Rattle.field.proofs.Substitution.{sub_invert}
use Rattle.tables.proofs.substitute_inverse.Goals as goal

pub returns : goal.returns
unfolding sub
returns c = ap₂ (λ (s : List ℕ) (b : ℕ). get_or s b 0) c.sbox_inverse-inverse.ensures c.from.ensures ∙ sub_invert table1 c.args.b (omega arith)
