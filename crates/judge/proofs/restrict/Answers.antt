-- With a pivot, its unknown is worked out of y and put in everywhere; without one, y gives 0 as it is.
-- Assumes nothing.
use mathlib.Core.Path.{◌≡◌, sym, ap, ◌∙◌, subst}
use Prim.Native.Nat.{ℕ}
use lib.ListN.{get_or, replicate}
use Rattle.rows.specs.Inverse.{reciprocal}
use Rattle.judge.specs.Elimination.{combined, cleared, Restricted}
use Rattle.judge.proofs.Elimination.{restricted_none, restricted_some}
use Rattle.judge.proofs.restrict.Goals as goal

pub returns-in_default : goal.returns-in_default
returns-in_default c = restricted_none _ _ c.in_default.ensures

pub returns : goal.returns
unfolding reciprocal
returns c =
    let a = c.args.a in
    let y = c.args.y in
    let p = c.in-Some.p in
    let divisor : c.power-c.result ≡ reciprocal (get_or y p 0) = c.power-c.ensures in
    subst (Restricted a y) (sym (c.clear_column.ensures ∙ ap (cleared a p) (c.add_times.ensures ∙ ap (λ (x : ℕ). combined (replicate 8 0) x y) divisor)))
    (restricted_some a y p c.in-Some.ensures.inside c.in-Some.ensures.some c.in-Some.ensures.small)
