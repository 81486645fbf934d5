-- The numbers, and the key behind them.
-- Assumes nothing.
use mathlib.Core.Path.{◌∙◌}
use Rattle.register_records.proofs.Parts.{entry_laid}
use Rattle.register_records.proofs.lay.Goals as goal

pub returns : goal.returns
returns c =
    entry_laid c.args.e.now c.args.d.now c.args.at c.requires (c.copy_from_slice.ensures.after ∙ c.to_le_bytes.ensures) (c.copy_from_slice-2.ensures.after ∙ c.to_le_bytes-2.ensures) c.copy_from_slice-3.ensures.after
