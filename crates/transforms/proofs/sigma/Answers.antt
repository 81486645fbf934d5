-- After j turns the words below j are there; word 0 is rotated at the end.
-- Assumes nothing.
use Rattle.std.proofs.Common.{◌≡◌, take, sym, refl, ap₂, arith, get_or-take}
use lib.Bits.{bit_xor}
use Rattle.forms.specs.Lists.{tabulate}
use Rattle.labyrinth.specs.Working.{four_words}
use Rattle.labyrinth.proofs.FourWords.{four_more, four_end}
use Rattle.labyrinth.proofs.Ends.{sigma_first}
use Rattle.transforms.proofs.sigma.Goals as goal

pub loop-j-init : goal.loop-j-init
unfolding four_words tabulate
loop-j-init c = refl

pub loop-j-preserved : goal.loop-j-preserved
loop-j-preserved c =
    let v = c.loop-j in
    let a = c.args in
    four_more _ v.j (omega arith) v.invariant (ap₂ bit_xor (sym (get_or-take a.n a.l v.j 0 (omega arith))) (sym (get_or-take a.n a.r v.j 0 (omega arith))))

pub returns : goal.returns
returns c =
    let v = c.loop-j in
    let a = c.args in
    let e : v.j ≡ a.n = omega arith in
    sigma_first (take a.n a.l, take a.n a.r) a.n (omega arith) (four_end _ e v.invariant) c.rotate_left.ensures
