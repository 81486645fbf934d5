-- The length, then byte by byte from the last: one that was marked before stands twice.
-- Assumes nothing.
use mathlib.Core.Path.{sym}
use Prim.Native.Nat.{◌-◌}
use native.Mathlib.Omega.{arith}
use Rattle.substitutions.proofs.Seen.{seen_none, seen_more, seen_again, seen_all, short}
use Rattle.substitutions.proofs.is_different.Goals as goal

pub returns-then-s-ne256 : goal.returns-then-s-ne256
returns-then-s-ne256 c = sym (short c.args.s.now c.if-s-ne256.true)

pub loop-i-init : goal.loop-i-init
loop-i-init c = seen_none c.args.s.now 256 (omega arith)

pub returns-then-seen-x : goal.returns-then-seen-x
returns-then-seen-x c =
    let l = c.loop-i in
    sym (seen_again c.args.s.now l.i (l.i - 1) (omega arith) (omega arith) c.from-x.ensures (omega (arith, (c.type_inv.s (l.i - 1)).fits)) l.invariant c.if-seen-x.true)

pub loop-i-preserved : goal.loop-i-preserved
loop-i-preserved c =
    let l = c.loop-i in
    seen_more c.args.s.now l.i (l.i - 1) (omega arith) (omega arith) c.from-x.ensures (omega (arith, (c.type_inv.s (l.i - 1)).fits)) l.invariant c.if-seen-x.false

pub returns : goal.returns
returns c =
    let s = c.args.s.now in
    sym (seen_all s c.loop-i.i (omega arith) (λ k. (c.type_inv.s k).fits) (omega arith) c.loop-i.invariant)
