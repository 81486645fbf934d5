-- Set 0 by the constants, a number outside, or what stands in the store.
-- Assumes nothing.
use mathlib.Core.Path.{sym, ◌∙◌}
use Rattle.sets.proofs.Sets.{set_in_zero, set_in_other, set_in_outside}
use Rattle.stores.proofs.set_in.Goals as goal

pub returns-then-i-eq0 : goal.returns-then-i-eq0
returns-then-i-eq0 c = c.published.ensures ∙ sym (set_in_zero _ _ c.if-i-eq0.true)

pub returns-then-i-gt3 : goal.returns-then-i-gt3
returns-then-i-gt3 c = c.blank.ensures ∙ sym (set_in_outside _ _ c.if-i-gt3.true)

pub returns : goal.returns
returns c = sym (set_in_other _ _ c.if-i-eq0.false c.if-i-gt3.false)
