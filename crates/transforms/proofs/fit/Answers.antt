-- The three legal n, and the others.
-- Assumes nothing.
use Rattle.std.proofs.Common.{arith}
use Rattle.labyrinth.specs.Refusals.{legal}
use Rattle.labyrinth.proofs.Sizes.{illegal}
use Rattle.transforms.proofs.fit.Goals as goal

pub returns-in-1 : goal.returns-in-1
unfolding legal
returns-in-1 c = rw c.in-1.is

pub returns-in-2 : goal.returns-in-2
unfolding legal
returns-in-2 c = rw c.in-2.is

pub returns-in-4 : goal.returns-in-4
unfolding legal
returns-in-4 c = rw c.in-4.is

pub returns-in_default : goal.returns-in_default
returns-in_default c = rw (illegal c.args.n (λ e. omega arith) (λ e. omega arith) (λ e. omega arith))
