-- After some turns the word is mixed as often.
-- Assumes nothing.
use mathlib.Core.Path.{refl, sym, ap, ◌∙◌}
use Prim.Native.Nat.{ℕ}
use native.Mathlib.Numerals.{add-one}
use Rattle.forms.specs.Lists.{iterate}
use Rattle.field.specs.Mixing.{mix}
use Rattle.rows.proofs.power.Goals as goal

pub loop-init : goal.loop-init
unfolding iterate
loop-init c = refl

pub loop-preserved : goal.loop-preserved
unfolding iterate
loop-preserved c =
    let g = c.args.g in
    c.mix_row-w.ensures ∙ ap (mix g) c.loop.invariant ∙ ap (λ (m : ℕ). iterate m (mix g) 1) (sym (add-one c.loop.counter))
