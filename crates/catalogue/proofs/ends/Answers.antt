-- The last command, and nothing behind it.
-- Assumes nothing.
use mathlib.Core.Path.{◌≡◌, sym, ◌∙◌}
use mathlib.Core.Bool.{true}
use native.Mathlib.Omega.{arith}
use lib.ListN.{drop, length-drop}
use Rattle.pages.specs.Pages.{begins}
use Rattle.pages.proofs.Commands.{begins_iff}
use Rattle.catalogue.proofs.Catalogues.{ended_other, ended_there}
use Rattle.catalogue.proofs.ends.Goals as goal
use Rattle.catalogue.proofs.ends.Goals.{Else-not-begins_at}

pub returns-then-not-begins_at : goal.returns-then-not-begins_at
returns-then-not-begins_at c = let a = c.args in ended_other a.bytes.now a.at (sym c.begins_at.ensures ∙ c.if-not-begins_at.true)

there : (c : Else-not-begins_at) → begins 0x1F 16 (drop c.args.at c.args.bytes.now) ≡ true
there c = sym c.begins_at.ensures ∙ c.if-not-begins_at.false

pub overflow_sub-result : goal.overflow_sub-result
overflow_sub-result c =
    let a = c.args in
    omega (arith, ((begins_iff 0x1F 16 (drop a.at a.bytes.now)).0 (there c)).0, length-drop a.at a.bytes.now)

pub returns : goal.returns
returns c = let a = c.args in ended_there a.bytes.now a.at (there c)
