-- After i turns the half-blocks below i are laid.
-- Assumes nothing.
use mathlib.Core.Path.{refl, ◌∙◌}
use Prim.Native.Nat.{◌≤◌, ◌<◌, ◌+◌, ◌*◌}
use native.Mathlib.Omega.{arith}
use lib.ListN.{replicate}
use Rattle.labyrinth.specs.Keys.{order}
use Rattle.labyrinth.proofs.Schedule.{within, laid_first, laid_next, laid_length, laid_all, use_order_lt}
use Rattle.schedule.proofs.lay_all.Goals as goal
use Rattle.schedule.proofs.lay_all.Goals.{After-subkey}

pub loop-i-init : goal.loop-i-init
loop-i-init c = let a = c.args in laid_first a.n a.words a.back (replicate 80 0)

pub overflow_mul-i : goal.overflow_mul-i
overflow_mul-i c = omega (arith, within c.args.n c.requires c.loop-i.i 20 (omega arith))

pub subkey-requires : goal.subkey-requires
unfolding order
subkey-requires c = (omega arith, refl)

-- the half-block that is taken lies within the key
narrow : (c : After-subkey)
    → let n = c.args.n in c.subkey.result * n + n ≤ 32
narrow c =
    let i = c.loop-i.i in
    within c.args.n c.requires c.subkey.result 8 (rw c.subkey.ensures (use_order_lt c.args.back i (omega arith)))

pub overflow_mul-subkey : goal.overflow_mul-subkey
overflow_mul-subkey c = omega (arith, narrow c)

pub lay-requires : goal.lay-requires
lay-requires c =
    let v = c.loop-i in
    let a = c.args in
    let l : v.i < 20 = omega arith in
    (within a.n c.requires v.i 20 l, narrow c, laid_length a.n a.words a.back c.requires v.i l v.invariant)

pub loop-i-preserved : goal.loop-i-preserved
loop-i-preserved c =
    let v = c.loop-i in
    let a = c.args in
    let l : v.i < 20 = omega arith in
    c.lay.ensures ∙ laid_next a.n a.words a.back c.requires (replicate 80 0) v.i (within a.n c.requires v.i 20 l) c.subkey.ensures v.invariant

pub returns : goal.returns
returns c =
    let v = c.loop-i in
    let a = c.args in
    laid_all a.n a.words a.back c.requires (omega arith) v.invariant
