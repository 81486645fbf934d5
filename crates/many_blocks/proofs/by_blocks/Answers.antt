-- The blocks before `at` are written; those from there on still stand in the destination, and make the rest.
-- Assumes nothing.
use mathlib.Core.Path.{◌≡◌, refl, sym, ap, ◌∙◌}
use Prim.Native.Nat.{ℕ, ◌+◌, ◌-◌, ◌*◌, ◌≤◌, ◌%◌}
use native.Mathlib.Omega.{arith}
use lib.ListN.{length}
use Rattle.forms.specs.Lists.{when}
use Rattle.forms.proofs.Parts.{part_length}
use Rattle.labyrinth.specs.Lent.{lent}
use Rattle.labyrinth.proofs.Lent.{lent_length}
use Rattle.forms.proofs.EachBlock.{kept_first, kept_block, kept_block_next, kept_last, read_length}
use Rattle.many_blocks.proofs.by_blocks.Goals as goal
use Rattle.many_blocks.proofs.by_blocks.Goals.{In-loop-at, Start}

-- what is read is as long as the source
read-long : (s : Start) → length (when s.args.own s.args.dst.now s.args.src.now) ≡ length s.args.src.now
read-long s = read_length s.args.own s.args.dst.now s.args.src.now s.requires.3

pub loop-at-init : goal.loop-at-init
loop-at-init c =
    kept_first _ _ _ _ _ (ap (λ (k : ℕ). k % (16 * c.args.n)) (read-long (goal.at.loop-at-init c).Start) ∙ c.requires.1) (c.requires.3 ∙ sym (read-long (goal.at.loop-at-init c).Start))

-- a block is left
block_left : (c : In-loop-at) → c.loop-at.at + 16 * c.args.n ≤ length c.args.src.now
block_left c = omega (arith, kept_block _ _ _ _ _ c.loop-at.invariant (omega arith), read-long (goal.at.In-loop-at c).Start)

pub overflow_add-end : goal.overflow_add-end
overflow_add-end c = omega (arith, block_left c)

pub slice_bounds-block-end : goal.slice_bounds-block-end
slice_bounds-block-end c = omega (arith, block_left c)

pub slice_bounds-block-end-in-loop-at : goal.slice_bounds-block-end-in-loop-at
slice_bounds-block-end-in-loop-at c = omega (arith, block_left (goal.at.slice_bounds-block-end-in-loop-at c).In-loop-at)

pub slice_bounds-block-end-in-loop-at-2 : goal.slice_bounds-block-end-in-loop-at-2
slice_bounds-block-end-in-loop-at-2 c = omega (arith, block_left (goal.at.slice_bounds-block-end-in-loop-at-2 c).In-loop-at, c.loop-at.invariant.same, read-long (goal.at.slice_bounds-block-end-in-loop-at-2 c).Start)

pub block-requires : goal.block-requires
block-requires c =
    let at = c.loop-at.at in
    let e = at + 16 * c.args.n in
    let r = block_left (goal.at.block-requires c).In-loop-at in (
      c.requires.0,
      omega (arith, part_length c.args.src.now at e (omega arith) r),
      omega (arith, part_length c.args.mask.now at e (omega arith) (omega arith)),
      omega (arith, part_length c.loop-at.dst at e (omega arith) (omega (arith, c.loop-at.invariant.same, read-long (goal.at.block-requires c).Start))),
    )

pub loop-at-smaller : goal.loop-at-smaller
loop-at-smaller c =
    omega (arith, block_left (goal.at.loop-at-smaller c).In-loop-at, c.requires.0.pos)

pub loop-at-preserved : goal.loop-at-preserved
loop-at-preserved c =
    let a = c.args in
    let call = c.block in
    kept_block_next (lent a.n a.t.now a.s.now a.u.now a.ks.now) (16 * a.n) (lent_length a.n a.t.now a.s.now a.u.now a.ks.now)
    (omega (arith, c.requires.0.pos)) a.own a.src.now a.mask.now a.dst.now _ refl c.loop-at.invariant (omega arith) call.auto.dst call.ensures

pub shape_of-dst : goal.shape_of-dst
shape_of-dst c = omega (arith, c.loop-at.invariant.same, read-long (goal.at.shape_of-dst c).Start, c.requires.3)

pub returns : goal.returns
returns c = kept_last _ _ _ _ _ c.loop-at.invariant c.loop-at-test.false
