-- 13 exactly where the coefficients XOR to zero.
-- Assumes nothing.
use mathlib.Core.Path.{sym, ◌∙◌}
use Rattle.rows.proofs.Rows.{row_zero, row_iff}
use Rattle.rows.proofs.row_refusal.Goals as goal

pub returns-then-singular : goal.returns-then-singular
returns-then-singular c = sym (row_zero c.args.g (sym c.row_sum-singular.ensures ∙ c.if-singular.true))

pub returns : goal.returns
returns c = sym ((row_iff c.args.g).1 (λ z. c.if-singular.false (c.row_sum-singular.ensures ∙ z)))
