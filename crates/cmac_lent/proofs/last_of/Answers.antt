-- The blocks before the last, then the last under its mask.
-- Assumes nothing.
use mathlib.Core.Path.{◌≡◌, refl, sym}
use Prim.Native.Nat.{◌/◌, ◌≤◌}
use native.Mathlib.Omega.{arith}
use lib.ListN.{length, take, replicate}
use lib.Seq.{length-take-le}
use Rattle.forms.specs.Mapped.{chain_last}
use Rattle.labyrinth.specs.Lent.{lent}
use Rattle.labyrinth.proofs.Sizes.{size_one}
use Rattle.chains.proofs.Refusals.{chain_made}
use Rattle.modes.proofs.Cmac.{front_all}
use Rattle.cmac_lent.proofs.Chain.{mac_made}
use Rattle.cmac_lent.proofs.last_of.Goals as goal
use Rattle.cmac_lent.proofs.last_of.Goals.{After-chain_on, After-front-at}

-- the front ends within the message
inside : (c : After-front-at) → c.front-at.result ≤ length c.args.message.now
inside c = omega (arith, c.front-at.ensures, front_all (length c.args.message.now))

pub slice_bounds-chain_on-end-2 : goal.slice_bounds-chain_on-end-2
slice_bounds-chain_on-end-2 c = sym (length-take-le c.front-at.result c.args.message.now (inside (goal.at.slice_bounds-chain_on-end-2 c).After-front-at))

-- whole blocks before the last, which are not refused
chained : (c : After-chain_on) → let a = c.args in c.chain_on.new.c ≡ chain_last (lent 1 a.t.now a.s.now a.u.now a.ks.now) 16 (length (take c.front-at.result a.message.now) / 16) (replicate 16 0) (take c.front-at.result a.message.now)
chained c =
    chain_made 1 _ (replicate 16 0) size_one refl (omega (arith, c.front-at.ensures, length-take-le c.front-at.result c.args.message.now (inside (goal.at.After-chain_on c).After-front-at))) refl
    c.chain_on.ensures.number c.chain_on.ensures.last

pub slice_bounds-last_block-count : goal.slice_bounds-last_block-count
slice_bounds-last_block-count c = inside (goal.at.slice_bounds-last_block-count c).After-front-at

pub slice_bounds-last_block-start : goal.slice_bounds-last_block-start
slice_bounds-last_block-start c = inside (goal.at.slice_bounds-last_block-start c).After-front-at

pub returns : goal.returns
returns c =
    let a = c.args in
    mac_made (lent 1 a.t.now a.s.now a.u.now a.ks.now) a.message.now c.front-at.result c.front-at.ensures
    (chained (goal.at.returns c).After-chain_on) c.zeros_enciphered-l.ensures
    c.last_block-last.ensures c.chain_block.ensures
