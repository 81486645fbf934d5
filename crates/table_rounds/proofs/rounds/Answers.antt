-- Each arm is the sixteen iterations at its size and form.
-- Assumes nothing.
use Rattle.std.proofs.Common.{true, false, arith}
use Rattle.labyrinth.proofs.Sizes.{size_one, size_two, size_four}
use Rattle.labyrinth.proofs.Rounds.{ran_lent, unlent_size, unlent_words}
use Rattle.table_rounds.proofs.rounds.Goals as goal

pub returns-then-n-eq1 : goal.returns-then-n-eq1
returns-then-n-eq1 c = let a = c.args in ran_lent a.t.now true a.n 1 (omega arith) size_one (omega arith) _ a.h c.rounds_of.ensures

pub returns-then-n-eq2 : goal.returns-then-n-eq2
returns-then-n-eq2 c = let a = c.args in ran_lent a.t.now true a.n 2 (omega arith) size_two (omega arith) _ a.h c.rounds_of-then-n-eq2.ensures

pub returns-then-n-eq4 : goal.returns-then-n-eq4
returns-then-n-eq4 c = let a = c.args in ran_lent a.t.now true a.n 4 (omega arith) size_four (omega arith) _ a.h c.rounds_of-then-n-eq4.ensures

pub returns-else-n-eq4 : goal.returns-else-n-eq4
returns-else-n-eq4 c = unlent_size c.args.n _ (λ e. omega arith) (λ e. omega arith) (λ e. omega arith) _ _

pub returns-then-n-eq1-2 : goal.returns-then-n-eq1-2
returns-then-n-eq1-2 c = let a = c.args in ran_lent a.t.now false a.n 1 (omega arith) size_one (omega arith) _ a.h c.rounds_of-then-n-eq1-2.ensures

pub returns-then-n-eq2-2 : goal.returns-then-n-eq2-2
returns-then-n-eq2-2 c = let a = c.args in ran_lent a.t.now false a.n 2 (omega arith) size_two (omega arith) _ a.h c.rounds_of-then-n-eq2-2.ensures

pub returns-then-n-eq4-2 : goal.returns-then-n-eq4-2
returns-then-n-eq4-2 c = let a = c.args in ran_lent a.t.now false a.n 4 (omega arith) size_four (omega arith) _ a.h c.rounds_of-then-n-eq4-2.ensures

pub returns-else-n-eq4-2 : goal.returns-else-n-eq4-2
returns-else-n-eq4-2 c = unlent_size c.args.n _ (λ e. omega arith) (λ e. omega arith) (λ e. omega arith) _ _

pub returns-else-t-eq256 : goal.returns-else-t-eq256
returns-else-t-eq256 c = unlent_words c.args.n _ (λ e. omega arith) (λ e. omega arith) _ _
