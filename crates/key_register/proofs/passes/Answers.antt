-- By which of the two is asked for.
-- Assumes nothing.
use mathlib.Core.Path.{sym, ap, ◌∙◌}
use mathlib.Core.Bool.{Bool}
use Rattle.forms.specs.Lists.{when}
use Rattle.registers.specs.Registers.{has_number, replaces_number}
use Rattle.key_register.proofs.passes.Goals as goal

pub returns-then-replaced : goal.returns-then-replaced
unfolding replaces_number
returns-then-replaced c =
    let a = c.args in
    c.matches.ensures ∙ sym (ap (λ (b : Bool). when b (replaces_number a.number) (has_number a.number) a.e) c.if-replaced.true)

pub returns : goal.returns
unfolding has_number
returns c =
    let a = c.args in
    c.matches-2.ensures ∙ sym (ap (λ (b : Bool). when b (replaces_number a.number) (has_number a.number) a.e) c.if-replaced.false)
