-- One computed test over the table: each word is S of its index, multiplied by the row.
-- Assumes nothing.
use mathlib.Core.Path.{refl}
use Rattle.forms.specs.Lists.{tabulate, xor_sum}
use Rattle.forms.specs.Words.{join}
use Rattle.field.specs.Field.{mul, shift, times_x}
use Rattle.field.specs.Substitution.{sub}
use Rattle.field.specs.Mixing.{LCM}
use Rattle.field.specs.Merged.{merged, entry}
use Rattle.field.specs.Published.{table1, row}
use Rattle.tables.proofs.merged.merged_table.Goals as goal

pub returns : goal.returns
unfolding merged tabulate entry LCM sub join mul xor_sum shift times_x row table1
returns c = refl
