-- After i turns the words below i of both halves are there.
-- Assumes nothing.
use Rattle.std.proofs.Common.{◌≡◌, take, sym, refl, ap₂, arith, get_or-take}
use lib.Bits.{bit_xor}
use Rattle.forms.specs.Lists.{tabulate}
use Rattle.labyrinth.specs.Blocks.{Block}
use Rattle.labyrinth.specs.Working.{four_words}
use Rattle.labyrinth.proofs.FourWords.{four_more, four_end}
use Rattle.labyrinth.proofs.Ends.{sigma_at, imixed}
use Rattle.transforms.proofs.imix.Goals as goal

pub loop-i-init : goal.loop-i-init
unfolding four_words tabulate
loop-i-init c = (refl, refl)

pub loop-i-preserved : goal.loop-i-preserved
loop-i-preserved c =
    let v = c.loop-i in
    let a = c.args in
    let s : Block = (take a.n a.l, take a.n a.r) in
    let m = sigma_at s a.n v.i (omega arith) (omega arith) c.sigma-d.ensures in (
      four_more _ v.i (omega arith) v.invariant.0 (ap₂ bit_xor (sym (get_or-take a.n a.l v.i 0 (omega arith))) m),
      four_more _ v.i (omega arith) v.invariant.1 (ap₂ bit_xor (sym (get_or-take a.n a.r v.i 0 (omega arith))) m),
    )

pub returns : goal.returns
returns c =
    let v = c.loop-i in
    let a = c.args in
    let s : Block = (take a.n a.l, take a.n a.r) in
    let e : v.i ≡ a.n = omega arith in
    imixed a.n s (four_end _ e v.invariant.0) (four_end _ e v.invariant.1)
