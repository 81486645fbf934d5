-- After i turns the first i words stand.
-- Assumes nothing.
use Rattle.std.proofs.Common.{◌≡◌, ℕ, ap, ◌∙◌, arith}
use Rattle.forms.specs.Words.{rotl}
use Rattle.labyrinth.specs.Keys.{register}
use Rattle.labyrinth.proofs.FourWords.{four_none, four_more, four_end}
use Rattle.expansion.proofs.first_register.Goals as goal

pub loop-i-init : goal.loop-i-init
loop-i-init c = four_none _

pub loop-i-preserved : goal.loop-i-preserved
loop-i-preserved c =
    let s = c.loop-i in
    four_more _ s.i (omega (arith, c.requires.0.top)) s.invariant (c.rotate_left.ensures ∙ ap (λ (x : ℕ). rotl x 29) c.xor_column.ensures)

pub returns : goal.returns
unfolding register
returns c = let s = c.loop-i in let e : s.i ≡ c.args.n = omega arith in four_end _ e s.invariant
