-- The legal n, and the others, for which there are zeros.
-- Assumes nothing.
use mathlib.Core.Path.{sym, ◌∙◌}
use Rattle.labyrinth.proofs.Refusals.{legal_size_of}
use Rattle.labyrinth.proofs.Schedule.{laid_none}
use Rattle.schedule.proofs.schedule.Goals as goal

pub lay_all-requires : goal.lay_all-requires
lay_all-requires c = legal_size_of c.args.k.n (sym c.is_legal.ensures ∙ c.if-is_legal.true)

pub returns-else-is_legal : goal.returns-else-is_legal
returns-else-is_legal c = let a = c.args in laid_none a.k.n a.k.words a.back (sym c.is_legal.ensures ∙ c.if-is_legal.false)
