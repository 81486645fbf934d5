-- Eight bytes copied to eight.
-- Assumes nothing.
use mathlib.Core.Path.{sym, ◌∙◌}
use borrow.Kind.Array.{good_length, e_int}
use mir.Syntax.{w8}
use Rattle.strings.proofs.Laying.{laid_whole}
use Rattle.rows_c.proofs.put_row.Goals as goal

pub returns : goal.returns
returns c =
    c.copy_into.ensures ∙ laid_whole c.args.r c.args.dst.now (good_length (e_int w8) 8 c.args.r _ c.well_formed.0 ∙ sym c.requires)
