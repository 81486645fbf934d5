-- What was passed by doesn't pass the test.
-- Assumes nothing.
use mathlib.Core.Path.{◌≡◌, refl, sym, ap, ◌∙◌}
use Prim.Native.Nat.{◌-◌}
use native.Mathlib.Numerals.{add-one}
use native.Mathlib.Omega.{arith}
use lib.ListN.{length}
use Rattle.forms.proofs.Search.{first_hit, first_miss, first_end}
use Rattle.registers.specs.Registers.{blank, held, entry_at}
use Rattle.registers.proofs.Entries.{held_long, read_held}
use Rattle.key_register.proofs.first_from.Goals as goal
use Rattle.key_register.proofs.first_from.Goals.{After-passes, Start}
use Rattle.key_register.proofs.first_from.Invariants.{test}

long : (s : Start) → length s.args.r.entries ≡ 64
long s = s.well_formed.0.1.1.1.0.1.0.1

pub loop-i-init : goal.loop-i-init
loop-i-init c = refl

-- the test, of the entry held at i
tested : (c : After-passes) →
    c.passes.result ≡ test c.args.number c.args.replaced (entry_at (held c.args.r) c.loop-i.i)
tested c =
    let n = c.size-n.ensures in
    c.passes.ensures ∙ ap (test c.args.number c.args.replaced) (read_held c.args.r c.loop-i.i (long (goal.at.After-passes c).Start) (omega arith))

pub returns-then-passes : goal.returns-then-passes
unfolding entry_at
returns-then-passes c =
    let l = c.loop-i in
    let n = c.size-n.ensures in
    let e = held_long c.args.r (long (goal.at.returns-then-passes c).Start) in
    sym (l.invariant ∙ first_hit (test c.args.number c.args.replaced) (held c.args.r) blank l.i (omega arith) (sym (tested (goal.at.returns-then-passes c).After-passes) ∙ c.if-passes.true))

pub loop-i-preserved : goal.loop-i-preserved
unfolding entry_at
loop-i-preserved c =
    let l = c.loop-i in
    let n = c.size-n.ensures in
    let e = held_long c.args.r (long (goal.at.loop-i-preserved c).Start) in
    let z = first_miss (test c.args.number c.args.replaced) (held c.args.r) blank l.i (omega arith) (sym (tested (goal.at.loop-i-preserved c).After-passes) ∙ c.if-passes.false) in
    rw add-one (l.invariant ∙ z)

pub returns : goal.returns
returns c =
    let l = c.loop-i in
    let n = c.size-n.ensures in
    let e = held_long c.args.r (long (goal.at.returns c).Start) in
    sym (l.invariant ∙ first_end (test c.args.number c.args.replaced) (held c.args.r) l.i (omega arith))
