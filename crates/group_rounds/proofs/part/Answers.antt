-- The byte's share of the eight tables.
-- Assumes nothing.
use Rattle.std.proofs.Common.{◌+◌, ◌*◌, refl, sym, arith}
use Rattle.std.proofs.lemmas.List.{get_or_past}
use Rattle.labyrinth.specs.Working.{share}
use Rattle.labyrinth.proofs.Permutation.{share_eight}
use Rattle.group_rounds.proofs.part.Goals as goal

pub returns-then-k-ge8 : goal.returns-then-k-ge8
unfolding share
returns-then-k-ge8 c = sym (get_or_past c.args.t.now (256 * c.args.k + c.args.b) 0 (omega (arith, c.told-t, c.if-k-ge8.true)))

pub returns : goal.returns
returns c = share_eight c.args.t.now c.args.k _ refl c.from.ensures
