-- The table is the merged one, and looking up in that is substitution and mixing.
-- Assumes nothing.
use mathlib.Core.Path.{ap, ◌∙◌}
use mathlib.Core.List.{List}
use Prim.Native.Nat.{ℕ}
use Rattle.field.specs.Merged.{lookup}
use Rattle.field.specs.Published.{table1, row}
use Rattle.field.proofs.Substitution.{table1_undo}
use Rattle.field.proofs.Merged.{lookup_merged}
use Rattle.mixing.proofs.substitute_and_mix.Goals as goal

pub returns : goal.returns
returns c =
    let w = c.args.w in
    c.look_up.ensures ∙ ap (λ (t : List ℕ). lookup t w) c.merged_table.ensures ∙ lookup_merged row table1 table1_undo.there w
