-- The lengths behind the tag key, and both behind the sealing key.
-- Assumes nothing.
use mathlib.Core.Path.{ap₂, ◌∙◌}
use mathlib.Core.Bool.{Bool}
use Prim.Native.Nat.{ℕ}
use lib.Dec.{eqb}
use Rattle.forms.specs.Refusals.{unless}
use Rattle.labyrinth.specs.Refusals.{under_key}
use Rattle.keyed_pages.specs.Refusals.{for_key, for_keys, write_refusal}
use Rattle.page_writer.proofs.write_refusal.Goals as goal

abbrev one : ℕ → Bool → ℕ → ℕ
one n b further = under_key n b (unless (eqb n 1) 12 further)

pub returns : goal.returns
unfolding write_refusal for_keys for_key
returns c =
    let a = c.args in
    c.key_refusal.ensures
    ∙ ap₂ (one a.sealing.n) c.is_loaded-2.ensures (c.key_refusal-further.ensures ∙ ap₂ (one a.tagging.n) c.is_loaded.ensures c.write_lengths-lengths.ensures)
