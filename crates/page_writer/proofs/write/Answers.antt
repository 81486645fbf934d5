-- A refusal, and the record.
-- Assumes nothing.
use mathlib.Core.Path.{sym, ◌∙◌}
use Rattle.forms.proofs.Refusals.{refused_keeps}
use Rattle.page_writer.proofs.write.Goals as goal

pub returns-then-refusal-ne0 : goal.returns-then-refusal-ne0
returns-then-refusal-ne0 c = record { number = c.write_refusal-refusal.ensures; page = refused_keeps _ _ _ c.if-refusal-ne0.true }

-- nothing is refused
pub put_record-requires : goal.put_record-requires
put_record-requires c = sym c.write_refusal-refusal.ensures ∙ c.if-refusal-ne0.false

pub returns : goal.returns
returns c =
    record { number = sym c.if-refusal-ne0.false ∙ c.write_refusal-refusal.ensures; page = c.put_record.ensures }
