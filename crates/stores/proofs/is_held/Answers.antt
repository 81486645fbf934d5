-- Set 0, then the two marks.
-- Assumes nothing.
use mathlib.Core.Path.{sym}
use Rattle.sets.proofs.Sets.{held_zero, held_first, held_second}
use Rattle.stores.proofs.is_held.Goals as goal

pub returns-then-i-eq0 : goal.returns-then-i-eq0
returns-then-i-eq0 c = sym (held_zero _ _ c.if-i-eq0.true)

pub returns-then-a-i : goal.returns-then-a-i
returns-then-a-i c = sym (held_first c.args.store _ c.if-a-i.true)

pub returns : goal.returns
returns c = sym (held_second _ _ c.if-i-eq0.false c.if-a-i.false)
