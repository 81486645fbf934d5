-- The words below the index are there.
-- Assumes nothing.
use mathlib.Core.Path.{sym, ap, ◌∙◌}
use native.Mathlib.Omega.{arith}
use Rattle.forms.proofs.Lists.{get_or_filled, tabulated}
use Rattle.field.specs.Substitution.{sub}
use Rattle.field.specs.Mixing.{scale}
use Rattle.field.specs.Merged.{entry, merged}
use Rattle.field.proofs.Merged.{LCM_scale}
use Rattle.rows.proofs.fill.Goals as goal

pub loop-b-preserved : goal.loop-b-preserved
unfolding sub
loop-b-preserved c = let l = c.loop-b in get_or_filled _ 0 l.table l.b _ (omega arith) c.times_each.ensures l.invariant

pub returns : goal.returns
unfolding merged entry
returns c =
    let a = c.args in
    tabulated 256 _ 0 _ (c.loop-b.auto.table ∙ c.requires)
    (λ k h. let x = sub a.s.now k in c.loop-b.invariant k (omega arith) ∙ ap (scale x) c.mix_row-row.ensures ∙ sym (LCM_scale a.g x))
