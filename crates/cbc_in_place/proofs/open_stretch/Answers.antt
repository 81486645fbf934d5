-- The copy is the stretch; it is opened from there to its place, and its last block goes into the chain.
-- Assumes nothing.
use mathlib.Core.Path.{◌≡◌, refl, sym, ap, ◌∙◌}
use mathlib.Core.List.{List, ◌++◌}
use Prim.Native.Nat.{ℕ, ◌-◌, ◌*◌, ◌%◌, ◌≤◌}
use native.Mathlib.Omega.{arith}
use lib.ListN.{length, take, drop, length-append, length-drop}
use lib.Seq.{length-take-le}
use Rattle.forms.proofs.Strings.{block_within}
use Rattle.forms.proofs.Parts.{take_filled}
use Rattle.strings.proofs.Laying.{copy_whole}
use Rattle.labyrinth.specs.Lent.{lent}
use Rattle.modes.specs.Cbc.{cbc_open}
use Rattle.cbc_in_place.proofs.Stretches.{run_opened, end_of_front}
use Rattle.cbc_in_place.proofs.open_stretch.Goals as goal
use Rattle.cbc_in_place.proofs.open_stretch.Goals.{After-copy_into, After-room-sealed, Start}

-- the stretch
abbrev d : Start → List ℕ
d s = s.args.d.now

-- the front of the room that is as long
front : (c : After-room-sealed) → length (take (length (d (goal.at.After-room-sealed c).Start)) c.room-sealed.result) ≡ length (d (goal.at.After-room-sealed c).Start)
front c = length-take-le (length (d (goal.at.After-room-sealed c).Start)) c.room-sealed.result (omega (arith, c.room-sealed.ensures, c.requires.d_nonzero.1))

pub slice_bounds-copy_into-end : goal.slice_bounds-copy_into-end
slice_bounds-copy_into-end c = sym (front (goal.at.slice_bounds-copy_into-end c).After-room-sealed)

-- what the room holds then
abbrev sealed : After-copy_into → List ℕ
sealed c = c.copy_into.new.d ++ drop (length (d (goal.at.After-copy_into c).Start)) c.room-sealed.result

-- the stretch stands at its front
copied : (c : After-copy_into) → c.copy_into.new.d ≡ d (goal.at.After-copy_into c).Start
copied c =
    let kept = c.copy_into.auto.d in
    copy_whole (take (length (d (goal.at.After-copy_into c).Start)) c.room-sealed.result) (kept ∙ front (goal.at.After-copy_into c).After-room-sealed) c.copy_into.ensures kept

stands : (c : After-copy_into) → take (length (d (goal.at.After-copy_into c).Start)) (sealed c) ≡ d (goal.at.After-copy_into c).Start
stands c = take_filled (length (d (goal.at.After-copy_into c).Start)) (d (goal.at.After-copy_into c).Start) _ refl (copied c)

within : (c : After-copy_into) → length (d (goal.at.After-copy_into c).Start) ≤ length (sealed c)
within c = omega (arith, length-append c.copy_into.new.d (drop (length (d (goal.at.After-copy_into c).Start)) c.room-sealed.result), ap length (copied c))

pub slice_bounds-sealed-end-2 : goal.slice_bounds-sealed-end-2
slice_bounds-sealed-end-2 c = within (goal.at.slice_bounds-sealed-end-2 c).After-copy_into

pub slice_bounds-open_lent-end : goal.slice_bounds-open_lent-end
slice_bounds-open_lent-end c = sym (ap length (stands (goal.at.slice_bounds-open_lent-end c).After-copy_into))

-- a block is in it
block : (s : Start) → length s.args.chain.now ≤ length (d s)
block s = omega (arith, s.requires.size.1, block_within (16 * s.args.n) (length (d s)) s.requires.size.2 s.requires.d_nonzero.0)

pub overflow_sub-last : goal.overflow_sub-last
overflow_sub-last c = block (goal.at.overflow_sub-last c).Start

pub slice_bounds-copy_into-end-2 : goal.slice_bounds-copy_into-end-2
slice_bounds-copy_into-end-2 c = within (goal.at.slice_bounds-copy_into-end-2 c).After-copy_into

pub returns : goal.returns
returns c =
    let z : ℕ = 16 * c.args.n in
    let at : ℕ = length (d (goal.at.returns c).Start) - length c.args.chain.now in
    let run = c.open_lent in
    let copy = c.copy_into-2 in
    let map : List ℕ → List ℕ = lent c.args.n c.args.t.now c.args.s.now c.args.u.now c.args.ks.now in
    let end : take (length (d (goal.at.returns c).Start) - at) (drop at (sealed (goal.at.returns c).After-copy_into)) ≡ drop at (d (goal.at.returns c).Start) =
    ap (λ (x : List ℕ). take (length (d (goal.at.returns c).Start) - at) (drop at (x ++ drop (length (d (goal.at.returns c).Start)) c.room-sealed.result))) (copied (goal.at.returns c).After-copy_into)
    ∙ end_of_front (d (goal.at.returns c).Start) (drop (length (d (goal.at.returns c).Start)) c.room-sealed.result) at (omega arith) in
    let same : length copy.new.d ≡ length c.args.chain.now = copy.auto.d in record {
      chain = copy_whole c.args.chain.now (same ∙ omega (arith, block (goal.at.returns c).Start, length-drop at (d (goal.at.returns c).Start), ap length end)) copy.ensures same
          ∙ end ∙ ap (λ (k : ℕ). drop (length (d (goal.at.returns c).Start) - k) (d (goal.at.returns c).Start)) c.requires.size.1;
      run = run_opened c.args.n _ _ c.requires.size.0 c.requires.size.1 (ap (λ (x : List ℕ). length x % z) (stands (goal.at.returns c).After-copy_into) ∙ c.requires.size.2) (sym (ap length (stands (goal.at.returns c).After-copy_into))) run.ensures.number run.ensures.run
          ∙ ap (cbc_open map z c.args.chain.now) (stands (goal.at.returns c).After-copy_into);
    }
