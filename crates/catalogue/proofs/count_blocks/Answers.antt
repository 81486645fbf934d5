-- Turn by turn, the commands counted and those to come make the whole count.
-- Assumes nothing.
use mathlib.Core.Path.{sym, ◌∙◌}
use Prim.Native.Nat.{◌-◌}
use native.Mathlib.Omega.{arith}
use Rattle.catalogue.proofs.Catalogues.{counting_first, counting_next, counting_other, counting_all}
use Rattle.catalogue.proofs.count_blocks.Goals as goal

pub loop-count-init : goal.loop-count-init
loop-count-init c = counting_first c.args.bytes.now c.args.from c.requires

pub overflow_mul-count : goal.overflow_mul-count
overflow_mul-count c = omega (arith, c.loop-count.invariant.few)

pub overflow_add-from : goal.overflow_add-from
overflow_add-from c = omega (arith, c.loop-count.invariant.within, c.well_formed)

pub returns-then-not-begins_at : goal.returns-then-not-begins_at
returns-then-not-begins_at c =
    let l = c.loop-count in
    let a = c.args in
    record { count = counting_other a.bytes.now a.from l.count l.invariant (sym c.begins_at.ensures ∙ c.if-not-begins_at.true); within = l.invariant.within }

pub overflow_add-count : goal.overflow_add-count
overflow_add-count c = omega (arith, c.loop-count.invariant.few)

pub loop-count-smaller : goal.loop-count-smaller
loop-count-smaller c = omega (arith, c.loop-count-test.true)

pub loop-count-preserved : goal.loop-count-preserved
loop-count-preserved c =
    let l = c.loop-count in
    let a = c.args in
    counting_next a.bytes.now a.from l.count l.invariant c.loop-count-test.true (sym c.begins_at.ensures ∙ c.if-not-begins_at.false)

pub returns : goal.returns
returns c =
    let l = c.loop-count in
    let a = c.args in
    record { count = counting_all a.bytes.now a.from l.count l.invariant c.loop-count-test.false; within = l.invariant.within }
