-- Each byte alone.
-- Assumes nothing.
use mathlib.Core.Path.{◌≡◌}
use mathlib.Core.Logic.{◌≢◌}
use borrow.Author.Rules.{rules}
use borrow.Author.Tests.{tests}
use Rattle.std.proofs.lemmas.Iterator.{cases_from_all, YieldsList-from_slice}
use Rattle.operands.proofs.Operands.{zeros_all}
use Rattle.operands.proofs.zeros.Goals as goal

pub returns : goal.returns
returns c =
    zeros_all c.args.s.now c.all.result
    (cases_from_all _ _ _ (λ x. x ≡ 0) (λ x. x ≢ 0) c.all.ensures.ran (YieldsList-from_slice c.args.s.now (search rules)) (λ x q k. search (rules, tests)) (λ x q k. search (rules, tests)))
