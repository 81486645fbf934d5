-- The whole blocks are filled with counter blocks and mapped; a short one is made by itself.
-- Assumes nothing.
use mathlib.Core.Path.{◌≡◌, refl, sym, ap, ap₂, ◌∙◌}
use mathlib.Core.List.{List, ◌++◌, append-nil}
use Prim.Native.Nat.{ℕ, ◌-◌, ◌*◌, ◌/◌, ◌%◌, ◌≤◌, ◌<◌}
use native.Mathlib.Nat.{div-mul-le_self, div-add-mod', mod-lt, mul-mod_left}
use native.Mathlib.Omega.{arith}
use lib.ListN.{length, take, drop, length-append, length-drop, drop_of_length-le}
use lib.Seq.{take_all, drop_at, length-take-le}
use Rattle.forms.specs.Strings.{xor_bytes}
use Rattle.forms.specs.Mapped.{each_block}
use Rattle.forms.proofs.Parts.{take_filled, part_length, part_to_end}
use Rattle.labyrinth.specs.Lent.{lent}
use Rattle.many_blocks.proofs.Refusals.{many_mapped}
use Rattle.modes.specs.Ctr.{counter, ctr}
use Rattle.modes.proofs.Maps.{Keeps, keeps_lent}
use Rattle.modes.proofs.Ctr.{length_counter, length_ctr, ctr_one}
use Rattle.ctr_lent.specs.Counting.{counter_blocks}
use Rattle.ctr_lent.proofs.Counting.{length_counter_blocks, ctr_each, run_whole, run_more, as_lent}
use Rattle.ctr_lent.proofs.ctr_blocks.Goals as goal
use Rattle.ctr_lent.proofs.ctr_blocks.Goals.{After-count_up, After-map_in_place, Start}

-- the block size, the first counter block and the slices
abbrev size : Start → ℕ
size s = 16 * s.args.n

abbrev first : Start → List ℕ
first s = s.args.counter.now

abbrev src : Start → List ℕ
src s = s.args.src.now

abbrev dst : Start → List ℕ
dst s = s.args.dst.now

-- where the whole blocks end
abbrev whole : Start → ℕ
whole s = length (src s) / length (first s) * length (first s)

within : (s : Start) → whole s ≤ length (src s)
within s = div-mul-le_self (length (src s)) (length (first s))

pub overflow_mul-whole : goal.overflow_mul-whole
overflow_mul-whole c = omega (arith, within (goal.at.overflow_mul-whole c).Start)

pub slice_bounds-count_up-end : goal.slice_bounds-count_up-end
slice_bounds-count_up-end c = omega (arith, within (goal.at.slice_bounds-count_up-end c).Start, c.requires.2)

-- the destination's part for the whole blocks
front_length : (s : Start) → length (take (whole s) (dst s)) ≡ whole s
front_length s = length-take-le (whole s) (dst s) (omega (arith, within s, s.requires.2))

pub slice_bounds-count_up-end-2 : goal.slice_bounds-count_up-end-2
slice_bounds-count_up-end-2 c = sym (front_length (goal.at.slice_bounds-count_up-end-2 c).Start)

pub count_up-requires : goal.count_up-requires
count_up-requires c =
    (omega (arith, c.requires.0.pos, c.requires.1), ap (λ (i : ℕ). i % length (first (goal.at.count_up-requires c).Start)) (front_length (goal.at.count_up-requires c).Start) ∙ mul-mod_left _ _)

-- how many whole blocks there are
abbrev count : Start → ℕ
count s = length (src s) / (size s)

counted : (s : Start) → whole s ≡ count s * (size s)
counted s = ap (λ (k : ℕ). length (src s) / k * k) s.requires.1

positive : (s : Start) → 0 < size s
positive s = omega (arith, s.requires.0.pos)

-- what the destination's part holds, and the counter block
filled : (c : After-count_up) → c.count_up.new.d ≡ counter_blocks (size (goal.at.After-count_up c).Start) (first (goal.at.After-count_up c).Start) 0 (count (goal.at.After-count_up c).Start)
filled c =
    as_lent (λ (z : ℕ) (x : List ℕ) (m : ℕ). counter_blocks z x 0 m) (size (goal.at.After-count_up c).Start) (count (goal.at.After-count_up c).Start) (positive (goal.at.After-count_up c).Start) c.requires.1 (front_length (goal.at.After-count_up c).Start ∙ counted (goal.at.After-count_up c).Start) c.count_up.ensures.blocks

next : (c : After-count_up) → c.count_up.new.c ≡ counter (size (goal.at.After-count_up c).Start) (first (goal.at.After-count_up c).Start) (count (goal.at.After-count_up c).Start)
next c = as_lent counter (size (goal.at.After-count_up c).Start) (count (goal.at.After-count_up c).Start) (positive (goal.at.After-count_up c).Start) c.requires.1 (front_length (goal.at.After-count_up c).Start ∙ counted (goal.at.After-count_up c).Start) c.count_up.ensures.next

filled-length : (s : Start) → length (counter_blocks (size s) (first s) 0 (count s)) ≡ whole s
filled-length s = length_counter_blocks (size s) (first s) 0 (count s) ∙ sym (counted s)

source-length : (s : Start) → length (take (whole s) (src s)) ≡ whole s
source-length s = length-take-le (whole s) (src s) (within s)

pub slice_bounds-map_in_place-end : goal.slice_bounds-map_in_place-end
slice_bounds-map_in_place-end c = sym (source-length (goal.at.slice_bounds-map_in_place-end c).Start)

pub slice_bounds-map_in_place-end-2 : goal.slice_bounds-map_in_place-end-2
slice_bounds-map_in_place-end-2 c =
    omega (arith, length-append c.count_up.new.d (drop (whole (goal.at.slice_bounds-map_in_place-end-2 c).Start) (dst (goal.at.slice_bounds-map_in_place-end-2 c).Start)), ap length (filled (goal.at.slice_bounds-map_in_place-end-2 c).After-count_up), filled-length (goal.at.slice_bounds-map_in_place-end-2 c).Start)

lent-part : (c : After-count_up) → take (whole (goal.at.After-count_up c).Start) (c.count_up.new.d ++ drop (whole (goal.at.After-count_up c).Start) (dst (goal.at.After-count_up c).Start)) ≡ counter_blocks (size (goal.at.After-count_up c).Start) (first (goal.at.After-count_up c).Start) 0 (count (goal.at.After-count_up c).Start)
lent-part c = take_filled (whole (goal.at.After-count_up c).Start) _ _ (filled-length (goal.at.After-count_up c).Start) (filled c)

pub slice_bounds-map_in_place-end-3 : goal.slice_bounds-map_in_place-end-3
slice_bounds-map_in_place-end-3 c = sym (ap length (lent-part (goal.at.slice_bounds-map_in_place-end-3 c).After-count_up) ∙ filled-length (goal.at.slice_bounds-map_in_place-end-3 c).Start)

-- the block map
abbrev map : Start → List ℕ → List ℕ
map s = lent s.args.n s.args.t.now s.args.s.now s.args.u.now s.args.ks.now

keeps : (s : Start) → Keeps (size s) (map s)
keeps s = keeps_lent s.args.n s.args.t.now s.args.s.now s.args.u.now s.args.ks.now

-- the whole blocks are done
mapped : (c : After-map_in_place) → c.map_in_place.new.dst ≡ ctr (map (goal.at.After-map_in_place c).Start) (size (goal.at.After-map_in_place c).Start) (first (goal.at.After-map_in_place c).Start) 0 (take (whole (goal.at.After-map_in_place c).Start) (src (goal.at.After-map_in_place c).Start))
mapped c =
    let p = lent-part (goal.at.After-map_in_place c).After-count_up in
    many_mapped c.args.n _ _ c.requires.0 (ap (λ (x : List ℕ). length x % size (goal.at.After-map_in_place c).Start) p ∙ ap (λ (k : ℕ). k % size (goal.at.After-map_in_place c).Start) (length_counter_blocks (size (goal.at.After-map_in_place c).Start) (first (goal.at.After-map_in_place c).Start) 0 (count (goal.at.After-map_in_place c).Start)) ∙ mul-mod_left (count (goal.at.After-map_in_place c).Start) (size (goal.at.After-map_in_place c).Start))
    (source-length (goal.at.After-map_in_place c).Start ∙ sym (ap length p ∙ filled-length (goal.at.After-map_in_place c).Start)) refl c.map_in_place.ensures.number c.map_in_place.ensures.blocks
    ∙ ap (λ (x : List ℕ). xor_bytes (each_block (map (goal.at.After-map_in_place c).Start) (size (goal.at.After-map_in_place c).Start) x) (take (whole (goal.at.After-map_in_place c).Start) (src (goal.at.After-map_in_place c).Start))) p
    ∙ ctr_each (map (goal.at.After-map_in_place c).Start) (size (goal.at.After-map_in_place c).Start) (positive (goal.at.After-map_in_place c).Start) (first (goal.at.After-map_in_place c).Start) 0 (count (goal.at.After-map_in_place c).Start) (take (whole (goal.at.After-map_in_place c).Start) (src (goal.at.After-map_in_place c).Start)) (source-length (goal.at.After-map_in_place c).Start ∙ counted (goal.at.After-map_in_place c).Start)

done-length : (s : Start) → length (ctr (map s) (size s) (first s) 0 (take (whole s) (src s))) ≡ whole s
done-length s = length_ctr (map s) (size s) (keeps s) (first s) (positive s) 0 (take (whole s) (src s)) ∙ source-length s

-- behind them the destination still stands
stands : (c : After-map_in_place) → drop (whole (goal.at.After-map_in_place c).Start) (c.count_up.new.d ++ drop (whole (goal.at.After-map_in_place c).Start) (dst (goal.at.After-map_in_place c).Start)) ≡ drop (whole (goal.at.After-map_in_place c).Start) (dst (goal.at.After-map_in_place c).Start)
stands c = drop_at c.count_up.new.d (drop (whole (goal.at.After-map_in_place c).Start) (dst (goal.at.After-map_in_place c).Start)) (whole (goal.at.After-map_in_place c).Start) (ap length (filled (goal.at.After-map_in_place c).After-count_up) ∙ filled-length (goal.at.After-map_in_place c).Start)

-- what is behind them, of the source and of the destination
rest-length : (s : Start) → length (take (length (src s) - whole s) (drop (whole s) (src s))) ≡ length (src s) - whole s
rest-length s = part_length (src s) (whole s) (length (src s)) (within s) (omega arith)

rest-short : (s : Start) → length (src s) - whole s ≤ size s
rest-short s = omega (arith, div-add-mod' (length (src s)) (size s), mod-lt (length (src s)) (positive s), counted s)

same-still : (c : After-map_in_place) → length (c.map_in_place.new.dst ++ drop (whole (goal.at.After-map_in_place c).Start) (c.count_up.new.d ++ drop (whole (goal.at.After-map_in_place c).Start) (dst (goal.at.After-map_in_place c).Start))) ≡ length (src (goal.at.After-map_in_place c).Start)
same-still c =
    length-append c.map_in_place.new.dst _
    ∙ omega (arith, ap length (mapped c), done-length (goal.at.After-map_in_place c).Start, ap length (stands c), length-drop (whole (goal.at.After-map_in_place c).Start) (dst (goal.at.After-map_in_place c).Start), c.requires.2, within (goal.at.After-map_in_place c).Start)

pub ctr_block-requires : goal.ctr_block-requires
ctr_block-requires c = (
  c.requires.0,
  ap length (next (goal.at.ctr_block-requires c).After-count_up) ∙ length_counter (size (goal.at.ctr_block-requires c).Start) (first (goal.at.ctr_block-requires c).Start) (count (goal.at.ctr_block-requires c).Start),
  omega (arith, rest-length (goal.at.ctr_block-requires c).Start, rest-short (goal.at.ctr_block-requires c).Start),
  part_length _ (whole (goal.at.ctr_block-requires c).Start) _ (omega (arith, same-still (goal.at.ctr_block-requires c).After-map_in_place, within (goal.at.ctr_block-requires c).Start)) (omega arith) ∙ ap (λ (k : ℕ). k - whole (goal.at.ctr_block-requires c).Start) (same-still (goal.at.ctr_block-requires c).After-map_in_place) ∙ sym (rest-length (goal.at.ctr_block-requires c).Start),
)

pub returns-then-whole-src : goal.returns-then-whole-src
returns-then-whole-src c =
    let call = c.ctr_block in
    let left = length (src (goal.at.returns-then-whole-src c).Start) - whole (goal.at.returns-then-whole-src c).Start in
    part_to_end _ call.new.dst (whole (goal.at.returns-then-whole-src c).Start)
    ∙ run_more (map (goal.at.returns-then-whole-src c).Start) (size (goal.at.returns-then-whole-src c).Start) (keeps (goal.at.returns-then-whole-src c).Start) (positive (goal.at.returns-then-whole-src c).Start) (first (goal.at.returns-then-whole-src c).Start) (count (goal.at.returns-then-whole-src c).Start) (src (goal.at.returns-then-whole-src c).Start) (whole (goal.at.returns-then-whole-src c).Start) (counted (goal.at.returns-then-whole-src c).Start) (within (goal.at.returns-then-whole-src c).Start)
    (take_filled (whole (goal.at.returns-then-whole-src c).Start) _ _ (done-length (goal.at.returns-then-whole-src c).Start) (mapped (goal.at.returns-then-whole-src c).After-map_in_place))
    (call.ensures
    ∙ ap₂ (λ (x y : List ℕ). xor_bytes x (map (goal.at.returns-then-whole-src c).Start y)) (take_all left (drop (whole (goal.at.returns-then-whole-src c).Start) (src (goal.at.returns-then-whole-src c).Start)) (omega (arith, length-drop (whole (goal.at.returns-then-whole-src c).Start) (src (goal.at.returns-then-whole-src c).Start)))) (next (goal.at.returns-then-whole-src c).After-count_up)
    ∙ sym (ctr_one (map (goal.at.returns-then-whole-src c).Start) (size (goal.at.returns-then-whole-src c).Start) (positive (goal.at.returns-then-whole-src c).Start) (first (goal.at.returns-then-whole-src c).Start) (count (goal.at.returns-then-whole-src c).Start) (drop (whole (goal.at.returns-then-whole-src c).Start) (src (goal.at.returns-then-whole-src c).Start)) (omega (arith, length-drop (whole (goal.at.returns-then-whole-src c).Start) (src (goal.at.returns-then-whole-src c).Start), c.if-whole-src.true)) (omega (arith, length-drop (whole (goal.at.returns-then-whole-src c).Start) (src (goal.at.returns-then-whole-src c).Start), rest-short (goal.at.returns-then-whole-src c).Start))))

pub returns-else-whole-src : goal.returns-else-whole-src
returns-else-whole-src c =
    ap (λ (x : List ℕ). c.map_in_place.new.dst ++ x) (stands (goal.at.returns-else-whole-src c).After-map_in_place ∙ drop_of_length-le (dst (goal.at.returns-else-whole-src c).Start) {i = whole (goal.at.returns-else-whole-src c).Start} (omega (arith, c.requires.2, c.if-whole-src.false)))
    ∙ append-nil _
    ∙ run_whole (map (goal.at.returns-else-whole-src c).Start) (size (goal.at.returns-else-whole-src c).Start) (keeps (goal.at.returns-else-whole-src c).Start) (positive (goal.at.returns-else-whole-src c).Start) (first (goal.at.returns-else-whole-src c).Start) (count (goal.at.returns-else-whole-src c).Start) (src (goal.at.returns-else-whole-src c).Start) (whole (goal.at.returns-else-whole-src c).Start) (counted (goal.at.returns-else-whole-src c).Start) c.if-whole-src.false (mapped (goal.at.returns-else-whole-src c).After-map_in_place)
