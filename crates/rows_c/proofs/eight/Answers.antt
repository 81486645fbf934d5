-- A list of length eight is its eight entries.
-- Assumes nothing.
use mathlib.Core.Path.{refl, sym}
use lib.ListN.{get_or}
use Rattle.forms.specs.Lists.{tabulate}
use Rattle.forms.proofs.Lists.{tabulated}
use Rattle.rows_c.proofs.eight.Goals as goal

pub returns : goal.returns
unfolding tabulate
returns c =
    sym (tabulated 8 (λ k. get_or c.args.row.now k 0) 0 c.args.row.now c.requires (λ k h. refl))
