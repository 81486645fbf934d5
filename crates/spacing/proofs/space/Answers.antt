-- After i turns the first i bytes are there, among zeros.
-- Assumes nothing.
use mathlib.Core.Path.{◌≡◌}
use native.Mathlib.Omega.{arith}
use Rattle.spacing.proofs.Spacing.{spacing_none, spacing_more, spacing_all}
use Rattle.spacing.proofs.space.Goals as goal

pub loop-i-init : goal.loop-i-init
loop-i-init c = spacing_none _ c.requires.1

pub loop-i-preserved : goal.loop-i-preserved
loop-i-preserved c =
    let v = c.loop-i in
    spacing_more _ v.i (omega arith) v.invariant

pub returns-clause-table : goal.returns-clause-table
returns-clause-table c =
    let v = c.loop-i in
    let e : v.i ≡ 256 = omega arith in
    spacing_all _ c.requires.0 e v.invariant
