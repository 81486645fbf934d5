-- The counter blocks before `at` are made, and c with k for its last byte is the one at `at`.
-- Assumes nothing.
use mathlib.Core.Path.{◌≡◌, refl, ◌∙◌}
use mathlib.Core.List.{◌++◌}
use Prim.Native.Nat.{◌+◌, ◌-◌, ◌≤◌}
use native.Mathlib.Omega.{arith}
use lib.ListN.{length, take, drop, length-set}
use Rattle.forms.proofs.Parts.{part_length}
use Rattle.strings.proofs.Laying.{copy_whole}
use Rattle.ctr_lent.proofs.Counting.{counted_first, counted_block, counted_size, counted_kept, counted_next, counted_all, counted_last}
use Rattle.ctr_lent.proofs.count_up.Goals as goal
use Rattle.ctr_lent.proofs.count_up.Goals.{After-copy_into, In-loop-at}

pub loop-at-init : goal.loop-at-init
loop-at-init c = (refl, counted_first _ _ refl (λ i. omega (arith, c.slice_known-1.given i)) _ c.requires.1)

-- a block is left
block_here : (c : In-loop-at) → c.loop-at.at + length c.args.c.now ≤ length c.loop-at.d
block_here c = counted_block _ _ _ _ _ _ _ c.loop-at.invariant.1 c.loop-at-test.true

pub overflow_add-end : goal.overflow_add-end
overflow_add-end c = omega (arith, block_here c)

pub slice_bounds-copy_into-end : goal.slice_bounds-copy_into-end
slice_bounds-copy_into-end c = omega (arith, block_here c)

-- c is laid there
laid : (c : After-copy_into) → c.copy_into.new.d ≡ c.loop-at.c
laid c =
    let p = c.loop-at in
    let end = p.at + length c.args.c.now in
    let long = part_length p.d p.at end (omega arith) (block_here (goal.at.After-copy_into c).In-loop-at) in
    copy_whole (take (end - p.at) (drop p.at p.d)) (omega (arith, c.copy_into.auto.d, long, counted_size _ _ _ _ _ _ _ p.invariant.1)) c.copy_into.ensures c.copy_into.auto.d

-- and the buffer keeps its length
kept : (c : After-copy_into) → let z = length c.args.c.now in length (take c.loop-at.at c.loop-at.d ++ (c.copy_into.new.d ++ drop (c.loop-at.at + z - c.loop-at.at) (drop c.loop-at.at c.loop-at.d))) ≡ length c.loop-at.d
kept c =
    counted_kept _ _ _ _ _ _ _ c.loop-at.invariant.1 _ refl c.loop-at-test.true (laid c)

pub overflow_sub-d : goal.overflow_sub-d
overflow_sub-d c = omega (arith, c.requires.0)

pub bounds-d-end : goal.bounds-d-end
bounds-d-end c =
    omega (arith, kept (goal.at.bounds-d-end c).After-copy_into, block_here (goal.at.bounds-d-end c).In-loop-at, c.requires.0)

pub next_last-k-requires : goal.next_last-k-requires
next_last-k-requires c =
    omega (arith, counted_size _ _ _ _ _ _ _ c.loop-at.invariant.1, c.requires.0)

pub loop-at-smaller : goal.loop-at-smaller
loop-at-smaller c =
    simp length-set (omega (arith, kept (goal.at.loop-at-smaller c).After-copy_into, block_here (goal.at.loop-at-smaller c).In-loop-at, c.requires.0))

pub loop-at-preserved : goal.loop-at-preserved
loop-at-preserved c = (
  simp length-set (kept (goal.at.loop-at-preserved c).After-copy_into ∙ c.loop-at.invariant.0),
  counted_next _ _ _ _ _ _ _ c.loop-at.invariant.1 _ refl c.loop-at-test.true (laid (goal.at.loop-at-preserved c).After-copy_into) c.requires.0 _ _ c.next_last-k.ensures,
)

pub bounds-c-last-2 : goal.bounds-c-last-2
bounds-c-last-2 c = omega (arith, counted_size _ _ _ _ _ _ _ c.loop-at.invariant.1, c.requires.0)

pub shape_of-c : goal.shape_of-c
shape_of-c c = simp length-set (counted_size _ _ _ _ _ _ _ c.loop-at.invariant.1)

pub shape_of-d : goal.shape_of-d
shape_of-d c = c.loop-at.invariant.0

pub returns : goal.returns
returns c =
    let pos = c.requires.0 in
    record { blocks = counted_all _ _ _ _ _ _ _ c.loop-at.invariant.1 pos c.loop-at-test.false; next = counted_last _ _ _ _ _ _ _ c.loop-at.invariant.1 pos c.loop-at-test.false }
