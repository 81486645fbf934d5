-- A row that XORs to zero, or its seventh power divided by the eighth.
-- Assumes nothing.
use mathlib.Core.Path.{◌≡◌, sym, ap, ap₂, ◌∙◌}
use mathlib.Core.List.{List}
use Prim.Native.Nat.{ℕ}
use Rattle.forms.specs.Lists.{iterate}
use Rattle.field.specs.Field.{power}
use Rattle.field.specs.Mixing.{mix, row_sum, scale}
use Rattle.rows.specs.Inverse.{reciprocal, inverted}
use Rattle.rows.proofs.Rows.{row_zero, row_iff}
use Rattle.rows.proofs.Ring.{bytes_of}
use Rattle.rows.proofs.Inverses.{inverse_bytes_lem, inverted_done}
use Rattle.rows.proofs.inverse.Goals as goal

pub returns-then-sum-eq0 : goal.returns-then-sum-eq0
unfolding inverted
returns-then-sum-eq0 c =
    let g = c.args.g in
    sym (ap (inverted g) (row_zero g (sym c.row_sum-sum.ensures ∙ c.if-sum-eq0.true)))

pub returns : goal.returns
unfolding reciprocal
returns c =
    let g = c.args.g in
    let sum : c.row_sum-sum.result ≡ row_sum g = c.row_sum-sum.ensures in
    let factor : c.power-reciprocal.result ≡ reciprocal (power (row_sum g) 8) =
    c.power-reciprocal.ensures ∙ ap reciprocal (c.power-eighth.ensures ∙ ap (λ (x : ℕ). power x 8) sum) in
    let power7 : c.power.result ≡ iterate 7 (mix g) 1 = c.power.ensures in
    let word : c.times_each.result ≡ scale (reciprocal (power (row_sum g) 8)) (iterate 7 (mix g) 1) =
    c.times_each.ensures ∙ ap₂ scale factor power7 in
    ap (λ (r : List ℕ). record { number = 0; row = r }) (c.row_of-row.ensures ∙ ap bytes_of word ∙ sym (inverse_bytes_lem g))
    ∙ sym (inverted_done g ((row_iff g).1 (λ z. c.if-sum-eq0.false (sum ∙ z))))
