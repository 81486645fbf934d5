-- The lengths, the number of adding, or the entry put.
-- Assumes nothing.
use mathlib.Core.Path.{◌≡◌, refl, ap, ap₂, ◌∙◌}
use mathlib.Core.List.{List}
use Prim.Native.Nat.{ℕ}
use lib.ListN.{length}
use Rattle.forms.proofs.Whole.{read_whole}
use Rattle.registers.specs.declared.Register.{Register}
use Rattle.registers.specs.Registers.{add}
use Rattle.register_layout.specs.Layout.{register_in}
use Rattle.register_layout.proofs.Entries.{made}
use Rattle.register_layout.proofs.Numbers.{register_refused, beside_refused}
use Rattle.registers_c.proofs.Answers.{not_stored, stored}
use Rattle.registers_c.proofs.labyrinth_register_add.Goals as goal
use Rattle.registers_c.proofs.labyrinth_register_add.Goals.{After-add-added, After-key_of-key}

pub returns-then-reg-ne2824 : goal.returns-then-reg-ne2824
returns-then-reg-ne2824 c =
    let a = c.args in
    record { number = register_refused (length a.reg.now) (length a.wrapped.now) 40 _ c.if-reg-ne2824.true; register = refl }

pub returns-then-wrapped-ne40 : goal.returns-then-wrapped-ne40
returns-then-wrapped-ne40 c =
    let a = c.args in
    record { number = beside_refused (length a.reg.now) (length a.wrapped.now) 40 _ c.if-reg-ne2824.false c.if-wrapped-ne40.true; register = refl }

-- the wrapped key that was read, and what adding answered
key-read : (c : After-key_of-key) → c.key_of-key.result ≡ c.args.wrapped.now
key-read c = c.key_of-key.ensures ∙ read_whole c.args.wrapped.now 40 c.if-wrapped-ne40.false

answered : (c : After-add-added) → let a = c.args in
    c.add-added.result ≡ add (register_in a.reg.now) a.number a.replaces a.wrapped.now
answered c =
    let a = c.args in
    c.add-added.ensures ∙ ap₂ (λ (r : Register) (k : List ℕ). add r a.number a.replaces k) c.register_of.ensures (key-read (goal.at.After-add-added c).After-key_of-key)

pub returns-then-added-ne0 : goal.returns-then-added-ne0
returns-then-added-ne0 c =
    let a = c.args in
    let both = not_stored a.reg.now a.wrapped.now a.number a.replaces c.if-reg-ne2824.false c.if-wrapped-ne40.false (answered (goal.at.returns-then-added-ne0 c).After-add-added) c.if-added-ne0.true in record { number = both.0; register = both.1 }

pub returns : goal.returns
returns c =
    let a = c.args in
    let both = stored a.reg.now a.wrapped.now a.number a.replaces c.if-reg-ne2824.false c.if-wrapped-ne40.false (answered (goal.at.returns c).After-add-added) c.if-added-ne0.false
    (ap (made a.number a.replaces) (key-read (goal.at.returns c).After-key_of-key)) c.extend.ensures in record { number = both.0; register = both.1 }
