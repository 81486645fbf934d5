-- The key is laid behind the place of A, the steps work there, and A is laid before.
-- Assumes nothing.
use mathlib.Core.Path.{refl}
use Rattle.labyrinth.specs.Lent.{lent}
use Rattle.key_wrap_lent.proofs.Keys.{wrap_made}
use Rattle.key_wrap_lent.proofs.wrap_into.Goals as goal

pub returns : goal.returns
returns c =
    let a = c.args in
    wrap_made (lent 1 a.t.now a.s.now a.u.now a.ks.now) a.src.now a.dst.now _ _ c.w.new.a c.w.new.r c.requires.0 c.requires.1 c.requires.2 c.check_value-a.ensures
    c.copy_into.auto.d c.copy_into.ensures refl
    c.w.auto.a c.w.auto.r c.w.ensures.number c.w.ensures.made refl
    c.copy_into-2.ensures
