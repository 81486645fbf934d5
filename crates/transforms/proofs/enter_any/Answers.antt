-- The three sizes: both halves come in, and IMix follows.
-- Assumes nothing.
use Rattle.std.proofs.Common.{arith}
use Rattle.field.specs.Substitution.{sub}
use Rattle.labyrinth.proofs.Ends.{entered, is_four}
use Rattle.transforms.proofs.enter_any.Goals as goal

pub returns-in-1 : goal.returns-in-1
returns-in-1 c =
    let a = c.args in
    entered (sub a.s.now) a.ks.now a.src.now c.in-1.is (omega arith) c.key_in-low.ensures c.key_in-high.ensures c.imix.ensures

pub returns-in-2 : goal.returns-in-2
returns-in-2 c =
    let a = c.args in
    entered (sub a.s.now) a.ks.now a.src.now c.in-2.is (omega arith) c.key_in-low-in-2.ensures c.key_in-high-in-2.ensures c.imix-in-2.ensures

pub returns-in_default : goal.returns-in_default
returns-in_default c =
    let a = c.args in
    let e = is_four c.requires.0 (λ e. omega arith) (λ e. omega arith) in
    entered (sub a.s.now) a.ks.now a.src.now e (omega arith) c.key_in-low-in_default.ensures c.key_in-high-in_default.ensures c.imix-in_default.ensures
