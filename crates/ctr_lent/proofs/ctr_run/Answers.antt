-- The counter block is the start block plus q, in the first of the 64 bytes.
-- Assumes nothing.
use mathlib.Core.Path.{◌≡◌, sym, ap, ◌∙◌}
use mathlib.Core.List.{List}
use Prim.Native.Nat.{ℕ, ◌+◌, ◌*◌, ◌≤◌}
use native.Mathlib.Omega.{arith}
use lib.ListN.{length, take, drop, length-append}
use Rattle.forms.specs.Strings.{number, string}
use Rattle.forms.proofs.Parts.{take_filled}
use Rattle.strings.proofs.Laying.{block_copy_front, block_copy_length}
use Rattle.labyrinth.specs.Lent.{lent}
use Rattle.modes.specs.Ctr.{counter}
use Rattle.modes.proofs.Ctr.{length_counter}
use Rattle.ctr_lent.proofs.Counting.{run_counter}
use Rattle.ctr_lent.proofs.ctr_run.Goals as goal
use Rattle.ctr_lent.proofs.ctr_run.Goals.{After-add_into, After-block_copy-counter, Start}

-- a block fits into the 64 bytes, and stands in front
fits : (s : Start) → length s.args.start.now ≤ 64
fits s = omega (arith, s.requires.1, s.requires.0.top)

in-front : (c : After-block_copy-counter) → take (length c.args.start.now) c.block_copy-counter.result ≡ c.args.start.now
in-front c = block_copy_front c.args.start.now (fits (goal.at.After-block_copy-counter c).Start) c.block_copy-counter.ensures

long : (c : After-block_copy-counter) → length c.block_copy-counter.result ≡ 64
long c = block_copy_length c.args.start.now (fits (goal.at.After-block_copy-counter c).Start) c.block_copy-counter.ensures

pub slice_bounds-counter-end : goal.slice_bounds-counter-end
slice_bounds-counter-end c = omega (arith, long c, fits (goal.at.slice_bounds-counter-end c).Start)

pub slice_bounds-add_into-end : goal.slice_bounds-add_into-end
slice_bounds-add_into-end c = sym (ap length (in-front (goal.at.slice_bounds-add_into-end c).After-block_copy-counter))

-- the first counter block
abbrev first : Start → List ℕ
first s = counter (16 * s.args.n) s.args.start.now s.args.q

first-length : (s : Start) → length (first s) ≡ length s.args.start.now
first-length s = length_counter (16 * s.args.n) s.args.start.now s.args.q ∙ sym s.requires.1

-- q is added
added : (c : After-add_into) → c.add_into.new.c ≡ first (goal.at.After-add_into c).Start
unfolding counter
added c =
    c.add_into.ensures
    ∙ ap (λ (x : List ℕ). string (length x) (number x + c.args.q)) (in-front (goal.at.After-add_into c).After-block_copy-counter)
    ∙ ap (λ (k : ℕ). string k (number c.args.start.now + c.args.q)) c.requires.1

pub slice_bounds-counter-end-2 : goal.slice_bounds-counter-end-2
slice_bounds-counter-end-2 c =
    omega (arith, length-append c.add_into.new.c (drop (length c.args.start.now) c.block_copy-counter.result), ap length (added (goal.at.slice_bounds-counter-end-2 c).After-add_into), first-length (goal.at.slice_bounds-counter-end-2 c).Start, long (goal.at.slice_bounds-counter-end-2 c).After-block_copy-counter, fits (goal.at.slice_bounds-counter-end-2 c).Start)

pub slice_bounds-from_counter-end : goal.slice_bounds-from_counter-end
slice_bounds-from_counter-end c =
    sym (ap length (take_filled _ (first (goal.at.slice_bounds-from_counter-end c).Start) _ (first-length (goal.at.slice_bounds-from_counter-end c).Start) (added (goal.at.slice_bounds-from_counter-end c).After-add_into)) ∙ first-length (goal.at.slice_bounds-from_counter-end c).Start)

pub from_counter-requires : goal.from_counter-requires
from_counter-requires c =
    (c.requires.0, ap length (take_filled _ (first (goal.at.from_counter-requires c).Start) _ (first-length (goal.at.from_counter-requires c).Start) (added (goal.at.from_counter-requires c).After-add_into)) ∙ first-length (goal.at.from_counter-requires c).Start ∙ c.requires.1, c.requires.2)

pub returns : goal.returns
returns c =
    let e = lent c.args.n c.args.t.now c.args.s.now c.args.u.now c.args.ks.now in
    run_counter e (16 * c.args.n) c.args.start.now c.args.q c.args.src.now
    c.from_counter.ensures (take_filled _ (first (goal.at.returns c).Start) _ (first-length (goal.at.returns c).Start) (added (goal.at.returns c).After-add_into))
