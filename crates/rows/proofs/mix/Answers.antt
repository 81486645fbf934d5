-- A row that is refused, or the word mixed by the row.
-- Assumes nothing.
use mathlib.Core.Path.{sym, ap, ◌∙◌}
use Prim.Native.Nat.{ℕ}
use Rattle.rows.specs.Rows.{mixed}
use Rattle.rows.proofs.Rows.{mixed_done, mixed_refused}
use Rattle.rows.proofs.mix.Goals as goal

pub returns-then-number-ne0 : goal.returns-then-number-ne0
returns-then-number-ne0 c =
    let a = c.args in
    sym (mixed_refused a.g a.w c.row_refusal-number.result c.if-number-ne0.true) ∙ ap (mixed a.g a.w) c.row_refusal-number.ensures

pub returns : goal.returns
returns c =
    let a = c.args in
    ap (λ (x : ℕ). record { number = 0; word = x }) c.mix_row.ensures
    ∙ sym (mixed_done a.g a.w (sym c.row_refusal-number.ensures ∙ c.if-number-ne0.false))
