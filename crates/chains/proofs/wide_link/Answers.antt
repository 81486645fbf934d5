-- Each arm chains a block of its n.
-- Assumes nothing.
use native.Mathlib.Omega.{arith}
use Rattle.forms.specs.Strings.{xor_bytes}
use Rattle.labyrinth.proofs.Ends.{is_four}
use Rattle.chains.proofs.Wide.{four_link, wide_link}
use Rattle.chains.proofs.wide_link.Goals as goal

pub link_1-requires : goal.link_1-requires
link_1-requires c =
    (omega (arith, c.if-n-eq1.true, c.requires.1), omega (arith, c.if-n-eq1.true, c.requires.2))

pub link_2-requires : goal.link_2-requires
link_2-requires c =
    (omega (arith, c.if-n-eq2.true, c.requires.1), omega (arith, c.if-n-eq2.true, c.requires.2))

pub link_4-requires : goal.link_4-requires
link_4-requires c =
    let e = is_four c.requires.0 c.if-n-eq1.false c.if-n-eq2.false in
    (omega (arith, e, c.requires.1), omega (arith, e, c.requires.2))

pub returns-then-n-eq1 : goal.returns-then-n-eq1
returns-then-n-eq1 c =
    let a = c.args in
    four_link a.n a.t.now a.s.now a.u.now a.ks.now 1 (xor_bytes a.src.now a.c.now) c.if-n-eq1.true c.requires.3 c.link_1.ensures

pub returns-then-n-eq2 : goal.returns-then-n-eq2
returns-then-n-eq2 c =
    let a = c.args in
    four_link a.n a.t.now a.s.now a.u.now a.ks.now 2 (xor_bytes a.src.now a.c.now) c.if-n-eq2.true c.requires.3 c.link_2.ensures

pub returns-else-n-eq2 : goal.returns-else-n-eq2
returns-else-n-eq2 c =
    let a = c.args in
    wide_link a.n a.t.now a.s.now a.u.now a.ks.now 4 (xor_bytes a.src.now a.c.now) (is_four c.requires.0 c.if-n-eq1.false c.if-n-eq2.false)
    c.link_4.ensures
