-- The three phases, the halves exchanged between the second and the third.
-- Assumes nothing.
use Rattle.labyrinth.specs.Groups.{spaced_sub, lookup_four}
use Rattle.wide_blocks.proofs.Ends.{phases}
use Rattle.wide_blocks.proofs.mapped.Goals as goal

pub returns : goal.returns
returns g c =
    let a = c.args in
    phases (spaced_sub a.s.now) (spaced_sub a.u.now) (lookup_four a.t.now) g.row.N a.ks.now (a.x.high, a.x.low)
    c.enter.ensures c.rounds-y.ensures c.exchanged.ensures c.leave.ensures
