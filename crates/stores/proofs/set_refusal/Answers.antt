-- The two checks in their order.
-- Assumes nothing.
use mathlib.Core.Path.{sym, ◌∙◌}
use Rattle.rows.specs.Rows.{row_refusal}
use Rattle.sets.specs.Sets.{set_refusal}
use Rattle.stores.proofs.set_refusal.Goals as goal

pub returns-then-not-is_different : goal.returns-then-not-is_different
unfolding set_refusal
returns-then-not-is_different c = rw (sym c.is_different.ensures ∙ c.if-not-is_different.true)

pub returns : goal.returns
unfolding set_refusal row_refusal
returns c = rw (sym c.is_different.ensures ∙ c.if-not-is_different.false) c.row_refusal.ensures
