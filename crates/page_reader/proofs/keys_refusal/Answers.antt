-- The tag key's number stands behind the sealing key's.
-- Assumes nothing.
use mathlib.Core.Path.{ap, ap₂, ◌∙◌}
use mathlib.Core.Bool.{Bool}
use Prim.Native.Nat.{ℕ}
use lib.Dec.{eqb}
use Rattle.forms.specs.Refusals.{unless}
use Rattle.labyrinth.specs.Refusals.{under_key}
use Rattle.keyed_pages.specs.Refusals.{for_key, for_keys}
use Rattle.page_reader.proofs.keys_refusal.Goals as goal

pub returns : goal.returns
unfolding for_keys for_key
returns c =
    let a = c.args in
    let further = c.key_refusal-further.ensures ∙ ap (λ (b : Bool). under_key a.tagging.n b (unless (eqb a.tagging.n 1) 12 0)) c.is_loaded.ensures in
    c.key_refusal.ensures
    ∙ ap₂ (λ (b : Bool) (r : ℕ). under_key a.sealing.n b (unless (eqb a.sealing.n 1) 12 r)) c.is_loaded-2.ensures further
