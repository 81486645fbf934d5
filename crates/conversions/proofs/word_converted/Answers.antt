-- The inverse row, the mixed word and the product, and what mixing by that answers.
-- Assumes nothing.
use mathlib.Core.Path.{◌≡◌, ap, ap₂, ◌∙◌}
use mathlib.Core.List.{List}
use Prim.Native.Nat.{ℕ}
use native.Mathlib.Omega.{arith}
use Rattle.field.specs.Mixing.{product}
use Rattle.rows.specs.declared.Mixed.{Mixed}
use Rattle.rows.specs.declared.Inverted.{Inverted}
use Rattle.rows.specs.Rows.{row_refusal, mixed}
use Rattle.rows.specs.Inverse.{inverted}
use Rattle.rows.proofs.Ring.{given_row}
use Rattle.conversions.proofs.Rows.{converted}
use Rattle.conversions.proofs.word_converted.Goals as goal

pub returns : goal.returns
returns c =
    let g = c.args.g in
    let h = c.args.h in
    let found : c.inverse-x.result ≡ inverted g (row_refusal g) = c.inverse-x.ensures in
    let word : c.mix-m.result ≡ mixed g c.args.w (row_refusal g) = c.mix-m.ensures in
    let row : c.product.result ≡ product c.inverse-x.result.row h = c.product.ensures in
    c.mix.ensures
    ∙ ap₂ (λ (p : List ℕ) (u : ℕ). mixed p u (row_refusal p)) (row ∙ ap (λ (y : Inverted). product y.row h) found) (ap (λ (y : Mixed). y.word) word)
    ∙ converted g h c.args.w (given_row g _ c.well_formed.0) (given_row h _ c.well_formed.1.0) (omega arith)
