-- The two bytes, each at its weight.
-- Assumes nothing.
use mathlib.Core.Path.{ap, ◌∙◌}
use Rattle.std.specs.Int.{w16, from_le_bytes}
use Rattle.forms.specs.Lists.{tabulate, words_from}
use Rattle.forms.specs.Words.{join}
use Rattle.word_bytes.proofs.Words.{from_le_two}
use Rattle.register_layout.specs.Layout.{two_byte_number}
use Rattle.register_records.proofs.number_at.Goals as goal

pub returns : goal.returns
unfolding two_byte_number words_from tabulate join
returns c = c.from_le_bytes.ensures ∙ ap (from_le_bytes w16) c.bytes_at.ensures ∙ from_le_two (words_from 2 c.args.at c.args.b.now)
