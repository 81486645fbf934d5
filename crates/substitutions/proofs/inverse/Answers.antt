-- The places are laid from the last to the first.
-- Assumes nothing.
use Prim.Native.Nat.{◌-◌}
use native.Mathlib.Omega.{arith}
use Rattle.substitutions.proofs.Places.{entries, entries_length, entry_read, laid_none, laid_more, laid_all}
use Rattle.substitutions.proofs.inverse.Goals as goal

pub loop-at-init : goal.loop-at-init
loop-at-init c = laid_none (entries c.args.s.now) (omega (arith, entries_length c.args.s.now))

pub loop-at-preserved : goal.loop-at-preserved
loop-at-preserved c =
    let l = c.loop-at in
    let s = c.args.s.now in
    laid_more (entries s) l.at (l.at - 1) l.r (omega arith) (omega arith) (omega (arith, entries_length s)) (entry_read s (l.at - 1) (omega arith) c.from-x.ensures)
    (omega (arith, c.fits-s (l.at - 1))) l.invariant

pub returns : goal.returns
returns c = laid_all _ _ c.loop-at.at (omega arith) c.loop-at.invariant
