-- The lengths, the number of the look_up, or the entry written.
-- Assumes nothing.
use mathlib.Core.Path.{◌≡◌, refl, ap, ◌∙◌}
use lib.ListN.{length}
use Rattle.forms.specs.Lists.{pick}
use Rattle.registers.specs.declared.Register.{Register}
use Rattle.registers.specs.Registers.{look_up}
use Rattle.register_layout.specs.Layout.{register_in}
use Rattle.register_layout.proofs.Numbers.{register_refused, beside_refused}
use Rattle.registers_c.proofs.Answers.{not_found, given}
use Rattle.registers_c.proofs.labyrinth_register_find.Goals as goal
use Rattle.registers_c.proofs.labyrinth_register_find.Goals.{After-look_up-found}

pub returns-then-reg-ne2824 : goal.returns-then-reg-ne2824
unfolding pick
returns-then-reg-ne2824 c =
    let a = c.args in
    record { number = register_refused (length a.reg.now) (length a.entry.now) 44 _ c.if-reg-ne2824.true; entry = refl; rule = refl; followed = refl }

pub returns-then-other : goal.returns-then-other
unfolding pick
returns-then-other c =
    let a = c.args in
    record { number = beside_refused (length a.reg.now) (length a.entry.now) 44 _ c.if-reg-ne2824.false c.if-other.true; entry = refl; rule = refl; followed = refl }

-- what the look_up answered
answered : (c : After-look_up-found) → let a = c.args in c.look_up-found.result ≡ look_up (register_in a.reg.now) a.number
answered c =
    let a = c.args in
    c.look_up-found.ensures ∙ ap (λ (r : Register). look_up r a.number) c.register_of.ensures

pub returns-then-found-ne0 : goal.returns-then-found-ne0
returns-then-found-ne0 c =
    let a = c.args in
    let both = not_found a.reg.now a.entry.now a.number c.if-reg-ne2824.false c.if-other.false (answered (goal.at.returns-then-found-ne0 c).After-look_up-found) c.if-found-ne0.true in record { number = both.0; entry = both.1.0; rule = both.1.1.0; followed = both.1.1.1 }

pub returns : goal.returns
returns c =
    let a = c.args in
    let both = given a.reg.now a.entry.now a.number c.if-reg-ne2824.false c.if-other.false (answered (goal.at.returns c).After-look_up-found) c.if-found-ne0.false c.put_entry.ensures in record { number = both.0; entry = both.1.0; rule = both.1.1.0; followed = both.1.1.1 }
