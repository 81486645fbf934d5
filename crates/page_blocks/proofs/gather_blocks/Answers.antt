-- i blocks are there, and the commands left make the rest.
-- Assumes nothing.
use mathlib.Core.Path.{◌≡◌, ◌∙◌}
use Prim.Native.Nat.{◌+◌, ◌*◌, ◌/◌}
use native.Mathlib.Omega.{arith}
use lib.ListN.{length}
use Rattle.forms.proofs.Parts.{part_length}
use Rattle.page_blocks.proofs.Moves.{gathering_next, gathering_last}
use Rattle.page_blocks.proofs.gather_blocks.Goals as goal

pub loop-i-preserved : goal.loop-i-preserved
loop-i-preserved c =
    let l = c.loop-i in
    let k = c.copy_from_slice.ensures in
    let s : length l.d ≡ 16 * (length c.args.commands.now / 17) = omega (arith, c.requires.1) in
    let m : length c.copy_from_slice.new.self ≡ 16 =
    k.len ∙ part_length l.d (16 * l.i) (16 * l.i + 16) (omega arith) (omega (arith, s)) ∙ omega arith in
    gathering_next c.args.commands.now l.d c.copy_from_slice.new.self _ l.i s (omega arith) m k.after ∙ l.invariant

pub returns : goal.returns
returns c =
    let l = c.loop-i in
    gathering_last c.args.commands.now l.d _ l.i (omega (arith, c.requires.1)) (omega arith) l.invariant
