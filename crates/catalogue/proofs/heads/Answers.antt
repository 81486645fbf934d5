-- One command after another.
-- Assumes nothing.
use mathlib.Core.Path.{sym, ◌∙◌}
use mathlib.Core.Bool.{true, false}
use Rattle.catalogue.proofs.Catalogues.{headed_first, headed_second, headed_third, headed_all}
use Rattle.catalogue.proofs.heads.Goals as goal

pub returns-then-not-begins_at : goal.returns-then-not-begins_at
returns-then-not-begins_at c = let a = c.args in headed_first a.bytes.now (sym c.begins_at.ensures ∙ c.if-not-begins_at.true)

pub returns-then-not-begins_at-2 : goal.returns-then-not-begins_at-2
returns-then-not-begins_at-2 c = let a = c.args in headed_second a.bytes.now (sym c.begins_at-2.ensures ∙ c.if-not-begins_at-2.true)

pub returns-then-not-begins_at-3 : goal.returns-then-not-begins_at-3
returns-then-not-begins_at-3 c = let a = c.args in headed_third a.bytes.now (sym c.begins_at-3.ensures ∙ c.if-not-begins_at-3.true)

pub returns : goal.returns
returns c =
    let a = c.args in
    c.begins_at-4.ensures
    ∙ headed_all a.bytes.now (sym c.begins_at.ensures ∙ c.if-not-begins_at.false)
    (sym c.begins_at-2.ensures ∙ c.if-not-begins_at-2.false) (sym c.begins_at-3.ensures ∙ c.if-not-begins_at-3.false)
