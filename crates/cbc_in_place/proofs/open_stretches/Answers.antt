-- What stands before `at` is opened, the chain holds the sealed block before it, and the rest is sealed still.
-- Assumes nothing.
use mathlib.Core.Path.{◌≡◌, sym, ap, ◌∙◌}
use mathlib.Core.List.{List}
use Prim.Native.Nat.{ℕ, ◌+◌, ◌-◌, ◌*◌, ◌%◌, ◌≤◌, ◌<◌, min}
use native.Mathlib.Omega.{arith}
use lib.ListN.{length, take, drop}
use Rattle.forms.proofs.Parts.{part_length}
use Rattle.labyrinth.specs.Lent.{lent}
use Rattle.modes.specs.Cbc.{cbc_open}
use Rattle.cbc_in_place.proofs.Stretches.{Opened, opened_first, opened_next, opened_last, stretch_whole}
use Rattle.cbc_in_place.proofs.open_stretches.Goals as goal
use Rattle.cbc_in_place.proofs.open_stretches.Goals.{After-stretch, Start}

-- the block size and the block map
abbrev size : Start → ℕ
size s = 16 * s.args.n

abbrev map : Start → List ℕ → List ℕ
map s = lent s.args.n s.args.t.now s.args.s.now s.args.u.now s.args.ks.now

positive : (s : Start) → 0 < size s
positive s = omega (arith, s.requires.0.pos)

pub loop-at-init : goal.loop-at-init
loop-at-init c = opened_first (map (goal.at.loop-at-init c).Start) (size (goal.at.loop-at-init c).Start) (positive (goal.at.loop-at-init c).Start) c.args.chain.now c.args.d.now c.requires.2 c.requires.1

module _ (c : After-stretch) where
  abbrev start : Start
  start = (goal.at.After-stretch c).Start

  abbrev d : List ℕ
  d = c.loop-at.d

  abbrev at : ℕ
  at = c.loop-at.at

  abbrev end : ℕ
  end = at + c.stretch.result

  inv : Opened (map start) (size start) (cbc_open (map start) (size start) start.args.chain.now start.args.d.now) c.loop-at.chain d (length start.args.d.now) at
  inv = c.loop-at.invariant

  left : at < length d
  left = c.loop-at-test.true

  some : 0 < c.stretch.result
  some = omega (arith, c.stretch.ensures, left)

  within : end ≤ length d
  within = omega (arith, c.stretch.ensures, left)

  short : c.stretch.result ≤ 8192
  short = omega (arith, c.stretch.ensures)

  whole : (end - at) % size start ≡ 0
  whole =
      let e : end - at ≡ min 8192 (length d - at) = omega (arith, c.stretch.ensures) in
      ap (λ (k : ℕ). k % size start) e
      ∙ stretch_whole start.args.n (length d - at) start.requires.0 (ap (λ (k : ℕ). (k - at) % size start) inv.same ∙ inv.left)

  -- the stretch
  abbrev part : List ℕ
  part = take (end - at) (drop at d)

  long : length part ≡ end - at
  long = part_length d at end (omega arith) within

pub overflow_add-end : goal.overflow_add-end
overflow_add-end c = omega (arith, within c)

pub slice_bounds-open_stretch-end : goal.slice_bounds-open_stretch-end
slice_bounds-open_stretch-end c = within (goal.at.slice_bounds-open_stretch-end c).After-stretch

pub open_stretch-requires : goal.open_stretch-requires
open_stretch-requires c =
    let s = start (goal.at.open_stretch-requires c).After-stretch in record { size = (s.requires.0, (inv (goal.at.open_stretch-requires c).After-stretch).held, ap (λ (k : ℕ). k % size s) (long (goal.at.open_stretch-requires c).After-stretch) ∙ whole (goal.at.open_stretch-requires c).After-stretch); d_nonzero = (omega (arith, long (goal.at.open_stretch-requires c).After-stretch, some (goal.at.open_stretch-requires c).After-stretch), omega (arith, long (goal.at.open_stretch-requires c).After-stretch, short (goal.at.open_stretch-requires c).After-stretch)) }

pub loop-at-smaller : goal.loop-at-smaller
loop-at-smaller c = omega (arith, some (goal.at.loop-at-smaller c).After-stretch, within (goal.at.loop-at-smaller c).After-stretch, (inv (goal.at.loop-at-smaller c).After-stretch).same)

pub loop-at-preserved : goal.loop-at-preserved
loop-at-preserved c =
    let s = start (goal.at.loop-at-preserved c).After-stretch in
    let call = c.open_stretch in
    opened_next (map s) (size s) (positive s) _ c.loop-at.chain (d (goal.at.loop-at-preserved c).After-stretch) call.new.d (length s.args.d.now) (at (goal.at.loop-at-preserved c).After-stretch) (end (goal.at.loop-at-preserved c).After-stretch) (inv (goal.at.loop-at-preserved c).After-stretch)
    (omega (arith, some (goal.at.loop-at-preserved c).After-stretch)) (omega (arith, within (goal.at.loop-at-preserved c).After-stretch, (inv (goal.at.loop-at-preserved c).After-stretch).same)) (whole (goal.at.loop-at-preserved c).After-stretch) call.ensures.run call.auto.d call.ensures.chain

pub shape_of-chain : goal.shape_of-chain
shape_of-chain c = c.loop-at.invariant.held ∙ sym c.requires.1

pub shape_of-d : goal.shape_of-d
shape_of-d c = c.loop-at.invariant.same

pub returns : goal.returns
returns c =
    let o = c.loop-at.invariant in
    opened_last (map (goal.at.returns c).Start) (size (goal.at.returns c).Start) (positive (goal.at.returns c).Start) _ c.loop-at.chain c.loop-at.d (length c.args.d.now) c.loop-at.at o (omega (arith, c.loop-at-test.false, o.same))
