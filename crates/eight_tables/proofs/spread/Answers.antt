-- After b turns word i of the first b tables is there.
-- Assumes nothing.
use mathlib.Core.Path.{◌≡◌, ap, ◌∙◌}
use Prim.Native.Nat.{◌*◌, ◌%◌}
use native.Mathlib.Omega.{arith}
use Rattle.forms.specs.Words.{rotl}
use Rattle.eight_tables.proofs.Making.{spreading_none, spreading_more, spreading_all}
use Rattle.eight_tables.proofs.spread.Goals as goal

pub loop-b-init : goal.loop-b-init
loop-b-init c = spreading_none _ _ _ c.requires.0 c.requires.1

pub loop-b-preserved : goal.loop-b-preserved
loop-b-preserved c =
    let l = c.loop-b in
    let turn : 8 * l.b % 64 ≡ 8 * l.b = omega arith in
    spreading_more _ _ _ c.requires.0 l.b (omega arith) (c.rotate_left.ensures ∙ ap (rotl _) turn) l.invariant

pub returns : goal.returns
returns c =
    let l = c.loop-b in
    let e : l.b ≡ 8 = omega arith in
    spreading_all _ _ _ c.requires.0 e l.invariant
