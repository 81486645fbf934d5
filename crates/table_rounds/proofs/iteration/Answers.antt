-- Each arm is one iteration at its size, under the key that stands in front of a schedule.
-- Assumes nothing.
use Rattle.std.proofs.Common.{sym, arith}
use Rattle.field.specs.Merged.{lookup}
use Rattle.labyrinth.specs.Working.{lookup_in, share}
use Rattle.labyrinth.proofs.Sizes.{size_one, size_two, size_four}
use Rattle.labyrinth.proofs.Rounds.{iterated, when_illegal}
use Rattle.table_rounds.proofs.iteration.Goals as goal

pub returns-in-1 : goal.returns-in-1
unfolding lookup lookup_in share
returns-in-1 c =
    iterated _ c.args.n 1 (omega arith) size_one _ c.args.k _ _ (omega arith) c.alone-ks.ensures c.round.ensures

pub returns-in-2 : goal.returns-in-2
unfolding lookup lookup_in share
returns-in-2 c =
    iterated _ c.args.n 2 (omega arith) size_two _ c.args.k _ _ (omega arith) c.alone-ks.ensures c.round-in-2.ensures

pub returns-in-4 : goal.returns-in-4
unfolding lookup lookup_in share
returns-in-4 c =
    iterated _ c.args.n 4 (omega arith) size_four _ c.args.k _ _ (omega arith) c.alone-ks.ensures c.round-in-4.ensures

pub returns-in_default : goal.returns-in_default
returns-in_default c = sym (when_illegal c.args.n (λ e. omega arith) (λ e. omega arith) (λ e. omega arith) _ _)
