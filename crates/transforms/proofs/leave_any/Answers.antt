-- The three sizes: IMix, and then both halves go out.
-- Assumes nothing.
use Rattle.std.proofs.Common.{◌*◌, ap, ◌∙◌, arith}
use Rattle.field.specs.Substitution.{sub}
use Rattle.labyrinth.proofs.Ends.{left, is_four}
use Rattle.transforms.proofs.leave_any.Goals as goal

pub returns-in-1 : goal.returns-in-1
returns-in-1 c =
    let a = c.args in
    left (sub a.u.now) a.ks.now a.h a.dst.now c.in-1.is (omega arith) (omega arith) c.imix-x.ensures c.key_out.ensures c.key_out-in-1.ensures

pub returns-in-2 : goal.returns-in-2
returns-in-2 c =
    let a = c.args in
    left (sub a.u.now) a.ks.now a.h a.dst.now c.in-2.is (omega arith) (omega arith) c.imix-x-in-2.ensures c.key_out-in-2.ensures c.key_out-in-2-2.ensures

pub returns-in_default : goal.returns-in_default
returns-in_default c =
    let a = c.args in
    let e = is_four c.requires.0 (λ e. omega arith) (λ e. omega arith) in
    left (sub a.u.now) a.ks.now a.h a.dst.now e (omega arith) (c.requires.1 ∙ ap (16 *◌) e) c.imix-x-in_default.ensures c.key_out-in_default.ensures c.key_out-in_default-2.ensures
