-- The word is put where it has room, and nothing where it has none.
-- Assumes nothing.
use mathlib.Core.Path.{◌∙◌}
use native.Mathlib.Omega.{arith}
use Rattle.buffers.proofs.Words.{with_none, word_stored}
use Rattle.buffers.proofs.store_word.Goals as goal

pub returns-then-is_inside : goal.returns-then-is_inside
returns-then-is_inside c = word_stored c.args.d.now c.args.at c.args.w (omega arith) (c.copy_from_slice.ensures.after ∙ c.to_le_bytes-b.ensures)

pub returns-else-is_inside : goal.returns-else-is_inside
returns-else-is_inside c = with_none _ _ _ (grind arith)
