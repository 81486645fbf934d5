-- The powers below the index are there, and x is the next.
-- Assumes nothing.
use mathlib.Core.Path.{refl, sym, ap, ◌∙◌}
use Prim.Native.Nat.{ℕ}
use native.Mathlib.Nat.{not-suc-le-zero}
use native.Mathlib.Numerals.{add-one}
use native.Mathlib.Omega.{arith}
use lib.ListN.{length-set}
use Rattle.forms.specs.Lists.{iterate}
use Rattle.forms.specs.Words.{each_byte}
use Rattle.forms.proofs.Lists.{get_or_filled, tabulated}
use Rattle.field.specs.Field.{times_x}
use Rattle.row_mixing.proofs.powers.Goals as goal

pub loop-power-init : goal.loop-power-init
unfolding iterate
loop-power-init c = (refl, refl, λ k h. absurd (not-suc-le-zero h))

pub loop-power-preserved : goal.loop-power-preserved
unfolding iterate
loop-power-preserved c =
    let l = c.loop-power in
    let i = l.power-index in (
      simp length-set l.invariant.0,
      c.times_x_each-x.ensures ∙ ap (each_byte times_x) l.invariant.1 ∙ ap (λ (k : ℕ). iterate k (each_byte times_x) c.args.w) (sym (add-one i)),
      get_or_filled _ 0 l.power-items i _ (omega arith) l.invariant.1 l.invariant.2,
    )

pub returns : goal.returns
returns c = let l = c.loop-power in tabulated 8 _ 0 _ l.invariant.0 (λ k h. l.invariant.2 k (omega arith))
