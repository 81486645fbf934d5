-- After i turns the word has the bytes below i.
-- Assumes nothing.
use mathlib.Core.Path.{◌≡◌, ◌∙◌}
use native.Mathlib.Omega.{arith}
use Rattle.forms.proofs.Words.{joined_none, joined_more, joined_end}
use Rattle.field.specs.Mixing.{mix_by}
use Rattle.matrices.proofs.mix_by.Goals as goal

pub loop-i-init : goal.loop-i-init
loop-i-init c = joined_none _

pub loop-i-preserved : goal.loop-i-preserved
loop-i-preserved c =
    let l = c.loop-i in joined_more l.i _ (omega arith) (omega arith) (c.from.ensures ∙ c.dot.ensures) l.invariant

pub returns : goal.returns
unfolding mix_by
returns c = let e : c.loop-i.i ≡ 8 = omega arith in joined_end _ e c.loop-i.invariant
