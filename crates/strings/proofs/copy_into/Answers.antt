-- The first i bytes are s's, and the others still stand.
-- Assumes nothing.
use mathlib.Core.Path.{refl}
use native.Mathlib.Omega.{arith}
use lib.ListN.{length-set}
use Rattle.strings.proofs.Laying.{lay_next, lay_all}
use Rattle.strings.proofs.copy_into.Goals as goal

pub loop-i-init : goal.loop-i-init
loop-i-init c = (refl, refl)

pub loop-i-preserved : goal.loop-i-preserved
loop-i-preserved c =
    let d₀ = c.args.d.now in
    let s = c.args.s.now in (
      simp length-set (omega arith),
      lay_next s d₀ c.loop-i.i (omega arith) (omega arith) c.loop-i.invariant.1 refl,
    )

pub returns : goal.returns
returns c =
    let d₀ = c.args.d.now in
    let s = c.args.s.now in
    lay_all s d₀ c.loop-i.i (omega arith) c.loop-i.invariant.1
