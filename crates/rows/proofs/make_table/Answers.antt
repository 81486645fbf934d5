-- The two checks in their order, or the table.
-- Assumes nothing.
use mathlib.Core.Path.{◌≡◌, refl, sym, ap, ◌∙◌}
use Rattle.forms.proofs.Refusals.{refused_keeps}
use Rattle.field.specs.Merged.{merged}
use Rattle.rows.proofs.Rows.{row_iff, table_refused, table_five, table_iff}
use Rattle.rows.proofs.make_table.Goals as goal

pub returns-then-number-ne0 : goal.returns-then-number-ne0
returns-then-number-ne0 c =
    record { number = table_refused c.args.g _ c.row_refusal-number.ensures c.if-number-ne0.true; table = refused_keeps _ _ _ c.if-number-ne0.true }

pub returns-then-table-ne256 : goal.returns-then-table-ne256
returns-then-table-ne256 c =
    let g = c.args.g in
    record { number = sym (table_five g _ ((row_iff g).0 (sym c.row_refusal-number.ensures ∙ c.if-number-ne0.false)) c.if-table-ne256.true); table = refl }

pub returns : goal.returns
returns c =
    let g = c.args.g in
    let filled : _ ≡ merged g c.sbox.result = c.fill.ensures in record { number = sym ((table_iff g _).1 ((row_iff g).0 (sym c.row_refusal-number.ensures ∙ c.if-number-ne0.false), c.if-table-ne256.false)); table = filled ∙ ap (merged g) c.sbox.ensures }
