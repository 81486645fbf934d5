-- Bytes 0 to 7 are the rows of a, bytes 8 to 15 the rows of m times a.
-- Assumes nothing.
use mathlib.Core.Path.{◌≡◌, sym, ◌∙◌}
use mathlib.Core.List.{[]}
use Prim.Native.Nat.{◌-◌}
use native.Mathlib.Omega.{arith}
use lib.ListN.{get_or}
use Rattle.field.specs.Mixing.{dot, mix_by}
use Rattle.field.proofs.Mixing.{byte_mix_by}
use Rattle.judge.proofs.Elimination.{sixteen_low, sixteen_high}
use Rattle.judge.proofs.byte_row.Goals as goal

pub returns-then-z-lt8 : goal.returns-then-z-lt8
returns-then-z-lt8 c w = sym (byte_mix_by _ w _ (omega arith)) ∙ sixteen_low _ _ _ (omega arith)

pub returns : goal.returns
returns c w =
    let a = c.args in
    let row : dot c.row_times.result w ≡ dot (get_or a.m (a.z - 8) []) (mix_by a.a w) = c.row_times.ensures w in
    row ∙ sym (byte_mix_by _ _ _ (omega arith)) ∙ sixteen_high _ _ _ (omega arith)
