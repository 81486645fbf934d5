-- The first i groups are written; those from there on still stand in the destination, and make the rest.
-- Assumes nothing.
use mathlib.Core.Path.{refl, subst}
use Prim.Native.Nat.{◌+◌, ◌*◌, ◌≤◌}
use native.Mathlib.Omega.{arith}
use lib.ListN.{length}
use Rattle.forms.proofs.EachBlock.{Kept, kept_last}
use Rattle.groups.proofs.Turns.{group_next}
use Rattle.groups.proofs.each_group.Goals as goal

pub loop-i-preserved : goal.loop-i-preserved
loop-i-preserved c =
    let a = c.args in
    let v = c.loop-i in
    let left : 64 * v.i + 64 ≤ length a.src.now = omega (arith, c.requires.3) in
    subst (Kept _ _ _ a.mask.now a.dst.now _) (omega arith)
    (group_next a.n c.requires.0 a.t.now a.s.now a.u.now a.ks.now a.own a.src.now a.mask.now a.dst.now (64 * v.i + 64) refl c.requires.3 left v.invariant c.side_by_side.auto.dst c.side_by_side.ensures)

pub returns : goal.returns
returns c = kept_last _ _ _ _ _ c.loop-i.invariant (omega (arith, c.requires.1, c.requires.3, c.loop-i.auto.dst))
