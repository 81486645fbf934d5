-- After i turns the first i words are stepped.
-- Assumes nothing.
use Rattle.std.proofs.Common.{◌≡◌, ℕ, sym, ap, arith, get_or-take}
use lib.Bits.{bit_xor}
use Rattle.labyrinth.specs.Blocks.{plus, each}
use Rattle.labyrinth.specs.Keys.{delta}
use Rattle.labyrinth.proofs.FourWords.{four_none, four_more, four_end}
use Rattle.expansion.proofs.step.Goals as goal

pub loop-i-init : goal.loop-i-init
loop-i-init c = four_none _

pub loop-i-preserved : goal.loop-i-preserved
loop-i-preserved c =
    let s = c.loop-i in
    four_more _ s.i (omega arith) s.invariant (ap (λ (x : ℕ). bit_xor (plus x 0x1084210842108421) 0x4444444444444444) (sym (get_or-take c.args.n _ s.i 0 (omega arith))))

pub returns : goal.returns
unfolding delta each
returns c = let s = c.loop-i in let e : s.i ≡ c.args.n = omega arith in four_end _ e s.invariant
