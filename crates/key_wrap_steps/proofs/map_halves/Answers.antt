-- The two semiblocks are laid into a block, and its halves over them.
-- Assumes nothing.
use mathlib.Core.Path.{◌≡◌, refl, sym, ap, ◌∙◌}
use mathlib.Core.List.{List, ◌++◌}
use Prim.Native.Nat.{ℕ}
use native.Mathlib.Omega.{arith}
use lib.ListN.{length, take, drop, replicate, length-append}
use Rattle.labyrinth.specs.Lent.{lent}
use Rattle.labyrinth.proofs.Sizes.{size_one}
use Rattle.labyrinth.proofs.Lent.{table_lendable, lent_block, lent_length}
use Rattle.key_wrap_steps.proofs.Halves.{laid, first_half, second_half}
use Rattle.key_wrap_steps.proofs.map_halves.Goals as goal
use Rattle.key_wrap_steps.proofs.map_halves.Goals.{After-block-5-1}

-- the block is the two semiblocks
block : (c : After-block-5-1)
    →
    let b = c.copy_into.new.d in
    take 8 b ++ (c.copy_into-2.new.d ++ drop 8 (drop 8 b)) ≡ c.args.a.now ++ c.args.r.now
block c =
    laid c.args.a.now c.args.r.now c.requires.0 c.requires.1 c.copy_into.ensures c.copy_into-2.ensures

block_length : (c : After-block-5-1) → let a = c.args in length (a.a.now ++ a.r.now) ≡ 16
block_length c =
    length-append c.args.a.now c.args.r.now ∙ omega (arith, c.requires.0, c.requires.1)

pub slice_bounds-map_block-end-2 : goal.slice_bounds-map_block-end-2
slice_bounds-map_block-end-2 c = sym (ap length (block c) ∙ block_length c)

pub returns : goal.returns
returns c =
    let a = c.args in
    let e : List ℕ → List ℕ = lent 1 a.t.now a.s.now a.u.now a.ks.now in
    let long = lent_length 1 a.t.now a.s.now a.u.now a.ks.now (a.a.now ++ a.r.now) in
    let mapped =
    lent_block 1 (e _) (replicate 16 0) size_one (table_lendable a.t.now c.map_block-arg-1.given) (ap length (block (goal.at.returns c).After-block-5-1) ∙ block_length (goal.at.returns c).After-block-5-1) refl c.map_block.ensures.number c.map_block.ensures.block
    ∙ ap e (block (goal.at.returns c).After-block-5-1) in record { first = first_half a.a.now a.r.now c.requires.0 c.requires.1 long mapped c.copy_into-3.ensures; second = second_half a.a.now a.r.now c.requires.0 c.requires.1 long mapped c.copy_into-4.ensures }
