-- A refusal leaves the destination; else the run is made.
-- Assumes nothing.
use mathlib.Core.Path.{sym, ◌∙◌}
use Rattle.forms.proofs.Refusals.{refused_keeps}
use Rattle.modes.proofs.Refusals.{cbc_taken}
use Rattle.cbc_lent.proofs.open_lent.Goals as goal

pub returns-then-number-ne0 : goal.returns-then-number-ne0
returns-then-number-ne0 c = record { number = c.cbc_refusal-number.ensures; run = refused_keeps _ _ _ c.if-number-ne0.true }

pub open_run-requires : goal.open_run-requires
open_run-requires c = let k = cbc_taken _ _ _ _ c.cbc_refusal-number.ensures c.if-number-ne0.false in (k.size, k.start, k.whole, k.same)

pub returns : goal.returns
returns c =
    record { number = sym c.if-number-ne0.false ∙ c.cbc_refusal-number.ensures; run = c.open_run.ensures }
