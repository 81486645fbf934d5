-- A group under a mask of zeros.
-- Assumes nothing.
use mathlib.Core.Path.{◌≡◌, refl}
use mathlib.Core.Bool.{true, ◌&&◌}
use native.Mathlib.Omega.{arith}
use lib.ListN.{length}
use lib.Dec.{eqb}
use borrow.Author.Tests.{eq-eqb, ne_eqb}
use Rattle.labyrinth.proofs.Sizes.{size_four}
use Rattle.groups.proofs.Turns.{block_alone}
use Rattle.groups.proofs.block_4.Goals as goal
use Rattle.groups.proofs.block_4.Goals.{Else-dst-ne64}

pub returns-then-src-ne64 : goal.returns-then-src-ne64
returns-then-src-ne64 c = rw (ne_eqb _ _ c.if-src-ne64.true)

pub returns-then-dst-ne64 : goal.returns-then-dst-ne64
returns-then-dst-ne64 c = rw (eq-eqb _ _ c.if-src-ne64.false, ne_eqb _ _ c.if-dst-ne64.true)

-- both are a group
both : (c : Else-dst-ne64) → let a = c.args in (length a.src.now ≡ 64) × (length a.dst.now ≡ 64)
both c = (c.if-src-ne64.false, c.if-dst-ne64.false)

pub each_group-requires : goal.each_group-requires
each_group-requires c =
    (size_four, rw (both (goal.at.each_group-requires c).Else-dst-ne64).0 refl, omega (arith, (both (goal.at.each_group-requires c).Else-dst-ne64).0), omega (arith, (both (goal.at.each_group-requires c).Else-dst-ne64).0, (both (goal.at.each_group-requires c).Else-dst-ne64).1))

pub returns : goal.returns
returns c =
    let a = c.args in
    let taken : true ≡ (eqb (length a.src.now) 64 && eqb (length a.dst.now) 64) = rw (eq-eqb _ _ (both (goal.at.returns c).Else-dst-ne64).0, eq-eqb _ _ (both (goal.at.returns c).Else-dst-ne64).1) refl in
    block_alone a.t.now a.s.now a.u.now a.ks.now a.src.now a.dst.now (both (goal.at.returns c).Else-dst-ne64).0 c.zero_block-zeros.ensures.zeros
    taken c.each_group.ensures
