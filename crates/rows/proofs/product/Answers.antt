-- The word of the one row, mixed by the other.
-- Assumes nothing.
use mathlib.Core.Path.{◌≡◌, sym, ap, ◌∙◌}
use Rattle.field.specs.Mixing.{mix}
use Rattle.word_bytes.proofs.Words.{from_le}
use Rattle.rows.proofs.Ring.{bytes_of, word_of, given_row, product_word}
use Rattle.rows.proofs.product.Goals as goal

pub returns : goal.returns
returns c =
    let g = c.args.g in
    let h = c.args.h in
    let word : c.from_le_bytes.result ≡ word_of g = c.from_le_bytes.ensures ∙ from_le g in
    c.row_of.ensures ∙ ap bytes_of (c.mix_row.ensures ∙ ap (mix h) word) ∙ sym (product_word g h (given_row g _ c.well_formed.0))
