-- The three lengths in their order, or the product.
-- Assumes nothing.
use mathlib.Core.Path.{◌≡◌, ap₂, ◌∙◌}
use Rattle.field.specs.Mixing.{product}
use Rattle.one_shot.proofs.Rows.{product_first, product_second, product_room, product_done}
use Rattle.rows_c.proofs.labyrinth_row_product.Goals as goal

pub returns-then-g-ne8 : goal.returns-then-g-ne8
returns-then-g-ne8 c = let a = c.args in let both = product_first a.g.now a.h.now a.dst.now c.if-g-ne8.true in record { number = both.0; row = both.1 }

pub returns-then-h-ne8 : goal.returns-then-h-ne8
returns-then-h-ne8 c = let a = c.args in let both = product_second a.g.now a.h.now a.dst.now c.if-g-ne8.false c.if-h-ne8.true in record { number = both.0; row = both.1 }

pub returns-then-dst-ne8 : goal.returns-then-dst-ne8
returns-then-dst-ne8 c =
    let a = c.args in
    let both = product_room a.g.now a.h.now a.dst.now c.if-g-ne8.false c.if-h-ne8.false c.if-dst-ne8.true in record { number = both.0; row = both.1 }

pub returns : goal.returns
returns c =
    let a = c.args in
    let first : c.eight.result ≡ a.g.now = c.eight.ensures in
    let second : c.eight-2.result ≡ a.h.now = c.eight-2.ensures in
    let both = product_done a.g.now a.h.now a.dst.now c.if-g-ne8.false c.if-h-ne8.false c.if-dst-ne8.false (c.put_row.ensures ∙ c.product.ensures ∙ ap₂ product first second) in
    record { number = both.0; row = both.1 }
