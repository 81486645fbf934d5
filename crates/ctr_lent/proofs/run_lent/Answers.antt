-- A refusal leaves the destination; else the run is made.
-- Assumes nothing.
use mathlib.Core.Path.{sym, ◌∙◌}
use Rattle.forms.proofs.Refusals.{refused_keeps}
use Rattle.modes.proofs.Refusals.{ctr_taken}
use Rattle.ctr_lent.proofs.run_lent.Goals as goal

pub returns-then-number-ne0 : goal.returns-then-number-ne0
returns-then-number-ne0 c = record { number = c.ctr_refusal-number.ensures; run = refused_keeps _ _ _ c.if-number-ne0.true }

pub ctr_run-requires : goal.ctr_run-requires
ctr_run-requires c = let k = ctr_taken _ _ _ _ c.ctr_refusal-number.ensures c.if-number-ne0.false in (k.size, k.start, k.same)

pub returns : goal.returns
returns c =
    record { number = sym c.if-number-ne0.false ∙ c.ctr_refusal-number.ensures; run = c.ctr_run.ensures }
