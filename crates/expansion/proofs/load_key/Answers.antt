-- After i turns the first i words stand, and zeros behind them.
-- Assumes nothing.
use Rattle.std.proofs.Common.{◌≡◌, ℕ, ◌*◌, refl, ap, ◌∙◌, arith}
use Rattle.forms.specs.Lists.{tabulate}
use Rattle.forms.specs.Words.{words}
use Rattle.buffers.proofs.Words.{word_at_lem}
use Rattle.labyrinth.specs.Refusals.{padded}
use Rattle.labyrinth.proofs.Expansion.{load_more}
use Rattle.expansion.proofs.load_key.Goals as goal

pub loop-i-init : goal.loop-i-init
unfolding padded words tabulate
loop-i-init c = refl

pub loop-i-preserved : goal.loop-i-preserved
loop-i-preserved c =
    let s = c.loop-i in
    load_more _ _ s.i _ s.invariant (omega arith) (c.load_word.ensures ∙ word_at_lem c.args.key.now (8 * s.i) (omega arith))

pub returns : goal.returns
returns c = let s = c.loop-i in let e : s.i ≡ c.args.m = omega arith in s.invariant ∙ ap (λ (k : ℕ). padded (words k c.args.key.now)) e
