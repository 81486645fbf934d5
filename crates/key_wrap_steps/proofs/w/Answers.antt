-- A refusal leaves both; else the rounds are made.
-- Assumes nothing.
use mathlib.Core.Path.{sym, ◌∙◌}
use Rattle.forms.proofs.Refusals.{refused_keeps}
use Rattle.key_wrap_steps.proofs.Refusals.{steps_taken}
use Rattle.key_wrap_steps.proofs.w.Goals as goal

pub returns-then-number-ne0 : goal.returns-then-number-ne0
returns-then-number-ne0 c = record { number = c.steps_refusal-number.ensures; made = refused_keeps _ _ _ c.if-number-ne0.true }

pub wrap_rounds-requires : goal.wrap_rounds-requires
wrap_rounds-requires c = steps_taken _ _ c.steps_refusal-number.ensures c.if-number-ne0.false

pub returns : goal.returns
returns c = record { number = sym c.if-number-ne0.false ∙ c.steps_refusal-number.ensures; made = c.wrap_rounds.ensures }
