-- The number fits into the last byte.
-- Assumes nothing.
use borrow.Author.Rules.{rules}
use Rattle.forms.proofs.Strings.{xor_last}
use Rattle.key_wrap_steps.proofs.count_into.Goals as goal

pub returns : goal.returns
returns c = xor_last 7 c.args.number c.args.a.now c.requires (search rules)
