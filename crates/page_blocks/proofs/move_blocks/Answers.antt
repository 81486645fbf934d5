-- i commands are made, and the blocks left make the rest.
-- Assumes nothing.
use mathlib.Core.Path.{◌≡◌, ◌∙◌}
use Prim.Native.Nat.{◌+◌, ◌*◌}
use native.Mathlib.Omega.{arith}
use lib.ListN.{length}
use Rattle.forms.proofs.Parts.{part_length, part_kept}
use Rattle.page_blocks.proofs.Moves.{moving_next, moving_last}
use Rattle.page_blocks.proofs.move_blocks.Goals as goal

pub slice_bounds-block_command-end : goal.slice_bounds-block_command-end
slice_bounds-block_command-end c = omega (arith, c.loop-i.invariant.0, c.requires)

pub loop-i-preserved : goal.loop-i-preserved
loop-i-preserved c =
    let l = c.loop-i in
    let k = c.copy_from_slice.ensures in
    let s : length l.d ≡ 17 * c.args.count = l.invariant.0 ∙ c.requires in
    let m : length c.copy_from_slice.new.self ≡ 17 =
    k.len ∙ part_length l.d (17 * l.i) (17 * l.i + 17) (omega arith) (omega (arith, s)) ∙ omega arith in (
      part_kept l.d c.copy_from_slice.new.self (17 * l.i) (17 * l.i + 17) (omega arith) (omega (arith, s)) (omega (arith, m)) ∙ l.invariant.0,
      moving_next l.d c.copy_from_slice.new.self c.args.count l.i s (omega arith) m (k.after ∙ c.block_command-c.ensures) ∙ l.invariant.1,
    )

pub shape_of-d : goal.shape_of-d
shape_of-d c = c.loop-i.invariant.0

pub returns : goal.returns
returns c = let l = c.loop-i in moving_last l.d c.args.count l.i (l.invariant.0 ∙ c.requires) (omega arith) l.invariant.1
