-- The two shifts meet where the word comes round.
-- Assumes nothing.
use Rattle.std.proofs.Common.{◌*◌, arith}
use Rattle.forms.proofs.Words.{rotl_code}
use Rattle.table_rounds.proofs.turn.Goals as goal

pub returns : goal.returns
returns c = rotl_code c.args.w (8 * c.args.k) (omega arith) (omega arith)
