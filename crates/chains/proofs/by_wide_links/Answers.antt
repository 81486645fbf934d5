-- The block so far is chained with the next; with keep, those before `at` are written.
-- Assumes nothing.
use mathlib.Core.Path.{◌≡◌, refl, sym, ap, ◌∙◌}
use mathlib.Core.Bool.{Bool}
use mathlib.Core.List.{List, ◌++◌}
use Prim.Native.Nat.{ℕ, ◌+◌, ◌-◌, ◌*◌, ◌≤◌, ◌<◌}
use native.Mathlib.Omega.{arith}
use lib.ListN.{length, take, drop}
use Rattle.forms.specs.Lists.{when}
use Rattle.forms.proofs.Parts.{part_length}
use Rattle.forms.proofs.Chains.{linked_first, linked_block, linked_blocks, linked_last, linked_next}
use Rattle.strings.proofs.Laying.{copy_whole}
use Rattle.chains.proofs.by_wide_links.Goals as goal
use Rattle.chains.proofs.by_wide_links.Goals.{In-loop-at, Start, Then-keep}

positive : (s : Start) → 0 < 16 * s.args.n
positive s = omega (arith, s.requires.0.pos)

pub loop-at-init : goal.loop-at-init
loop-at-init c =
    linked_first _ _ (positive (goal.at.loop-at-init c).Start) _ _ _ _ c.requires.3 c.requires.2 c.requires.1

-- a block is left
block_left : (c : In-loop-at) → c.loop-at.at + 16 * c.args.n ≤ length c.args.src.now
block_left c =
    linked_block _ _ (positive (goal.at.In-loop-at c).Start) _ _ _ _ c.requires.3 c.loop-at.invariant (omega arith)

pub overflow_add-end : goal.overflow_add-end
overflow_add-end c = omega (arith, block_left c)

pub slice_bounds-wide_link-end : goal.slice_bounds-wide_link-end
slice_bounds-wide_link-end c = omega (arith, block_left (goal.at.slice_bounds-wide_link-end c).In-loop-at)

pub wide_link-requires : goal.wide_link-requires
wide_link-requires c =
    let at = c.loop-at.at in
    (c.requires.0, c.loop-at.invariant.fits, omega (arith, part_length c.args.src.now at (at + 16 * c.args.n) (omega arith) (block_left (goal.at.wide_link-requires c).In-loop-at)), c.requires.4)

-- the destination has it too
room-left : (c : Then-keep) → c.loop-at.at + 16 * c.args.n ≤ length c.loop-at.dst
room-left c =
    omega (arith, block_left (goal.at.Then-keep c).In-loop-at, c.loop-at.invariant.same, c.requires.3 c.if-keep.true)

pub slice_bounds-copy_into-end : goal.slice_bounds-copy_into-end
slice_bounds-copy_into-end c = room-left c

pub loop-at-smaller-then-keep : goal.loop-at-smaller-then-keep
loop-at-smaller-then-keep c =
    omega (arith, block_left (goal.at.loop-at-smaller-then-keep c).In-loop-at, positive (goal.at.loop-at-smaller-then-keep c).Start)

-- the destination with a block put into it
abbrev with : ℕ → ℕ → List ℕ → List ℕ → List ℕ
with at e x d = take at d ++ (x ++ drop (e - at) (drop at d))

pub loop-at-preserved-then-keep : goal.loop-at-preserved-then-keep
loop-at-preserved-then-keep c =
    let l = c.loop-at in
    let e : ℕ = l.at + 16 * c.args.n in
    let call = c.wide_link in
    let next : List ℕ = call.new.c in
    let copy = c.copy_into in
    let long = part_length l.dst l.at e (omega arith) (room-left (goal.at.loop-at-preserved-then-keep c).Then-keep) in
    let same : length copy.new.d ≡ length next = omega (arith, copy.auto.d, long, l.invariant.fits, call.auto.c) in
    linked_next _ _ (positive (goal.at.loop-at-preserved-then-keep c).Start) _ _ _ _ c.requires.3 e refl l.invariant (omega arith) call.auto.c call.ensures
    (ap (λ (x : List ℕ). with l.at e x l.dst) (copy_whole (take (e - l.at) (drop l.at l.dst)) {s = next} same copy.ensures copy.auto.d)
    ∙ ap (λ (b : Bool). when b (with l.at e next l.dst) l.dst) (sym c.if-keep.true))

pub loop-at-smaller : goal.loop-at-smaller
loop-at-smaller c =
    omega (arith, block_left (goal.at.loop-at-smaller c).In-loop-at, positive (goal.at.loop-at-smaller c).Start)

pub loop-at-preserved : goal.loop-at-preserved
loop-at-preserved c =
    let l = c.loop-at in
    let call = c.wide_link in
    let e : ℕ = l.at + 16 * c.args.n in
    linked_next _ _ (positive (goal.at.loop-at-preserved c).Start) _ _ _ _ c.requires.3 e refl l.invariant (omega arith) call.auto.c call.ensures
    (ap (λ (b : Bool). when b (with l.at e call.new.c l.dst) l.dst) (sym c.if-keep.false))

pub shape_of-c : goal.shape_of-c
shape_of-c c = omega (arith, c.loop-at.invariant.fits)

pub shape_of-dst : goal.shape_of-dst
shape_of-dst c = c.loop-at.invariant.same

pub returns : goal.returns
returns c =
    let l = c.loop-at in
    record { blocks = linked_blocks _ _ (positive (goal.at.returns c).Start) _ _ _ _ c.requires.3 l.invariant c.loop-at-test.false; last = linked_last _ _ (positive (goal.at.returns c).Start) _ _ _ _ c.requires.3 l.invariant c.loop-at-test.false }
