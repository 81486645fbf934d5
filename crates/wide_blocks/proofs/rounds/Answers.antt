-- After i turns i iterations are done.
-- Assumes nothing.
use Rattle.std.proofs.Common.{◌≡◌, ℕ, subst, arith, rules}
use Rattle.labyrinth.specs.Groups.{lookup_four}
use Rattle.group_rounds.proofs.Iterations.{key_room}
use Rattle.wide_blocks.proofs.Iterations.{Ran, ran_none, ran_more}
use Rattle.wide_blocks.proofs.rounds.Goals as goal

pub loop-i-init : goal.loop-i-init
loop-i-init g c = ran_none _ _ _ _

pub overflow_mul-i : goal.overflow_mul-i
overflow_mul-i g c = omega (arith, key_room g.row.N c.requires.0 c.loop-i.i (omega arith))

pub round-z-requires : goal.round-z-requires
round-z-requires g c = (search rules, (c.requires.0, c.requires.1, key_room g.row.N c.requires.0 c.loop-i.i (omega arith), c.constants-c.ensures))

pub loop-i-preserved : goal.loop-i-preserved
loop-i-preserved g c = ran_more (lookup_four c.args.t.now) g.row.N c.args.ks.now (c.args.x.high, c.args.x.low) c.loop-i.i c.round-z.ensures c.loop-i.invariant

pub returns : goal.returns
returns g c =
    let e : c.loop-i.i ≡ 16 = omega arith in
    subst (λ (k : ℕ). Ran (lookup_four c.args.t.now) g.row.N c.args.ks.now (c.args.x.high, c.args.x.low) k (c.loop-i.y.high, c.loop-i.y.low)) e c.loop-i.invariant
