-- What differed before is gathered, and what is left decides the rest.
-- Assumes nothing.
use mathlib.Core.Path.{sym, ap, ap₂, ◌∙◌}
use native.Mathlib.Omega.{arith}
use lib.ListN.{length}
use borrow.Author.Rules.{rules}
use Rattle.std.proofs.lemmas.Iterator.{empty_from_Zip}
use Rattle.strings.proofs.Comparing.{compared, same_not, compared_next, compared_all}
use Rattle.strings.proofs.equal.Goals as goal

pub returns-then-a-b : goal.returns-then-a-b
returns-then-a-b c = same_not _ _ c.if-a-b.true

pub loop-x-init : goal.loop-x-init
loop-x-init c = (search rules, search rules)

pub loop-x-preserved : goal.loop-x-preserved
loop-x-preserved c =
    let s = c.in-Some.ensures.steps in
    let l = c.loop-x in (
      l.invariant.0 ∙ ap₂ (compared l.different) s.0 s.1 ∙ compared_next l.different c.in-Some.x.now c.in-Some.y.now _ _,
      omega (arith, ap length s.0, ap length s.1, l.invariant.1),
    )

pub returns : goal.returns
returns c =
    let l = c.loop-x in
    let e = empty_from_Zip l.x-iterator c.next.new.self c.next.result c.in-None.is c.next.ensures.steps l.invariant.1 in
    sym (l.invariant.0 ∙ ap₂ (compared l.different) e.0 e.1 ∙ compared_all l.different)
