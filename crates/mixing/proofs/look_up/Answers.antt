-- After j turns the word is the XOR over the bytes below j.
-- Assumes nothing.
use mathlib.Core.Path.{◌≡◌, refl, ap₂, ◌∙◌}
use Prim.Native.Nat.{ℕ}
use native.Mathlib.Omega.{arith}
use lib.ListN.{get_or}
use Rattle.forms.specs.Lists.{xor_sum}
use Rattle.forms.specs.Words.{rotl}
use Rattle.forms.proofs.Sums.{xor_sum_next, xor_sum_end}
use Rattle.field.specs.Merged.{lookup}
use Rattle.mixing.proofs.look_up.Goals as goal

pub loop-j-init : goal.loop-j-init
unfolding xor_sum
loop-j-init c = refl

pub loop-j-preserved : goal.loop-j-preserved
loop-j-preserved c =
    let l = c.loop-j in
    let t = c.args.t.now in
    xor_sum_next l.j _ l.invariant
    (c.rotate_left-r.ensures ∙ ap₂ (λ (x y : ℕ). rotl (get_or t x 0) y) (c.from.ensures ∙ c.byte_at.ensures) (omega arith))

pub returns : goal.returns
unfolding lookup
returns c = let e : c.loop-j.j ≡ 8 = omega arith in xor_sum_end _ e c.loop-j.invariant
