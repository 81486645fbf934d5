-- The block from memory and back.
-- Assumes nothing.
use Rattle.std.proofs.Common.{rules}
use Rattle.forms.specs.Lists.{tabulate, words_from}
use Rattle.labyrinth.specs.Groups.{spaced_sub, lookup_four, line_by}
use Rattle.wide_blocks.proofs.Ends.{standing}
use Rattle.wide_blocks.proofs.block_1.Goals as goal

pub returns : goal.returns
unfolding tabulate words_from
returns c =
    let a = c.args in
    standing 1 (line_by (spaced_sub a.s.now) (spaced_sub a.u.now) (lookup_four a.t.now) 1 a.ks.now) a.x (search rules) (search rules) c.mapped-y.ensures
