-- The first block is opened after the start block, the others after the blocks before them.
-- Assumes nothing.
use mathlib.Core.Path.{◌≡◌, sym, ap, ap₂, ◌∙◌}
use mathlib.Core.List.{List, ◌++◌}
use Prim.Native.Nat.{ℕ, ◌-◌, ◌*◌, ◌%◌, ◌≤◌, ◌<◌}
use native.Mathlib.Omega.{arith}
use lib.ListN.{length, take, drop, length-append, length-drop}
use lib.Seq.{take_all, take_at, length-take-le}
use Rattle.forms.specs.Strings.{xor_bytes}
use Rattle.forms.specs.Mapped.{each_block}
use Rattle.forms.proofs.Strings.{no_block, block_within}
use Rattle.forms.proofs.Parts.{part_length, part_to_end}
use Rattle.labyrinth.specs.Lent.{lent}
use Rattle.many_blocks.proofs.Refusals.{many_mapped}
use Rattle.modes.proofs.Maps.{Keeps, keeps_lent}
use Rattle.modes.proofs.Cbc.{length_open, first_whole, rest_whole, cbc_open_pieces}
use Rattle.cbc_lent.proofs.open_run.Goals as goal
use Rattle.cbc_lent.proofs.open_run.Goals.{After-map_to, After-map_to-then-src-ne0, Start, Then-src-ne0}

-- the block size and the slices
abbrev size : Start → ℕ
size s = 16 * s.args.n

abbrev start : Start → List ℕ
start s = s.args.start.now

abbrev src : Start → List ℕ
src s = s.args.src.now

abbrev dst : Start → List ℕ
dst s = s.args.dst.now

-- the block map
abbrev map : Start → List ℕ → List ℕ
map s = lent s.args.n s.args.t.now s.args.s.now s.args.u.now s.args.ks.now

keeps : (s : Start) → Keeps (size s) (map s)
keeps s = keeps_lent s.args.n s.args.t.now s.args.s.now s.args.u.now s.args.ks.now

positive : (s : Start) → 0 < size s
positive s = omega (arith, s.requires.0.pos)

-- there is a first block
within : (c : Then-src-ne0) → length c.args.start.now ≤ length c.args.src.now
within c = omega (arith, c.requires.1, block_within (size (goal.at.Then-src-ne0 c).Start) (length (src (goal.at.Then-src-ne0 c).Start)) c.requires.2 (omega (arith, c.if-src-ne0.true)))

pub overflow_sub-rest : goal.overflow_sub-rest
overflow_sub-rest c = within c

pub slice_bounds-map_to-end : goal.slice_bounds-map_to-end
slice_bounds-map_to-end c = sym (length-take-le _ c.args.src.now (within c))

-- in the destination too
within-dst : (c : Then-src-ne0) → length c.args.start.now ≤ length c.args.dst.now
within-dst c = omega (arith, within c, c.requires.3)

pub slice_bounds-map_to-end-then-src-ne0 : goal.slice_bounds-map_to-end-then-src-ne0
slice_bounds-map_to-end-then-src-ne0 c = within-dst c

pub slice_bounds-map_to-end-then-src-ne0-2 : goal.slice_bounds-map_to-end-then-src-ne0-2
slice_bounds-map_to-end-then-src-ne0-2 c = sym (length-take-le _ c.args.dst.now (within-dst (goal.at.slice_bounds-map_to-end-then-src-ne0-2 c).Then-src-ne0))

-- the first block is opened
first : (c : After-map_to) → c.map_to.new.dst ≡ xor_bytes (each_block (map (goal.at.After-map_to c).Start) (size (goal.at.After-map_to c).Start) (take (length (start (goal.at.After-map_to c).Start)) (src (goal.at.After-map_to c).Start))) (start (goal.at.After-map_to c).Start)
first c =
    let source = length-take-le (length (start (goal.at.After-map_to c).Start)) (src (goal.at.After-map_to c).Start) (within (goal.at.After-map_to c).Then-src-ne0) in
    many_mapped c.args.n _ _ c.requires.0 (first_whole (map (goal.at.After-map_to c).Start) (size (goal.at.After-map_to c).Start) (keeps (goal.at.After-map_to c).Start) (positive (goal.at.After-map_to c).Start) (start (goal.at.After-map_to c).Start) (src (goal.at.After-map_to c).Start) c.requires.1 c.requires.2 (within (goal.at.After-map_to c).Then-src-ne0))
    (sym source) (length-take-le _ (dst (goal.at.After-map_to c).Start) (within-dst (goal.at.After-map_to c).Then-src-ne0) ∙ sym source) c.map_to.ensures.number c.map_to.ensures.blocks

first-length : (c : After-map_to) → length c.map_to.new.dst ≡ length c.args.start.now
first-length c = c.map_to.auto.dst ∙ length-take-le _ c.args.dst.now (within-dst (goal.at.After-map_to c).Then-src-ne0)

pub slice_bounds-map_to-count : goal.slice_bounds-map_to-count
slice_bounds-map_to-count c = within (goal.at.slice_bounds-map_to-count c).Then-src-ne0

pub slice_bounds-map_to-start : goal.slice_bounds-map_to-start
slice_bounds-map_to-start c = omega (arith, within (goal.at.slice_bounds-map_to-start c).Then-src-ne0)

pub slice_bounds-map_to-end-then-src-ne0-4 : goal.slice_bounds-map_to-end-then-src-ne0-4
slice_bounds-map_to-end-then-src-ne0-4 c = sym (length-take-le _ c.args.src.now (omega arith))

-- the destination keeps its length
still : (c : After-map_to) → length (c.map_to.new.dst ++ drop (length (start (goal.at.After-map_to c).Start)) (dst (goal.at.After-map_to c).Start)) ≡ length (src (goal.at.After-map_to c).Start)
still c =
    length-append c.map_to.new.dst _ ∙ omega (arith, first-length c, length-drop (length (start (goal.at.After-map_to c).Start)) (dst (goal.at.After-map_to c).Start), c.requires.3, within (goal.at.After-map_to c).Then-src-ne0)

pub slice_bounds-map_to-count-then-src-ne0 : goal.slice_bounds-map_to-count-then-src-ne0
slice_bounds-map_to-count-then-src-ne0 c = omega (arith, still (goal.at.slice_bounds-map_to-count-then-src-ne0 c).After-map_to, within (goal.at.slice_bounds-map_to-count-then-src-ne0 c).Then-src-ne0)

pub slice_bounds-map_to-start-then-src-ne0 : goal.slice_bounds-map_to-start-then-src-ne0
slice_bounds-map_to-start-then-src-ne0 c = omega (arith, still (goal.at.slice_bounds-map_to-start-then-src-ne0 c).After-map_to, within (goal.at.slice_bounds-map_to-start-then-src-ne0 c).Then-src-ne0)

-- and the others
others : (c : After-map_to-then-src-ne0) → let k = length (start (goal.at.After-map_to-then-src-ne0 c).Start) in c.map_to-then-src-ne0.new.dst ≡ xor_bytes (each_block (map (goal.at.After-map_to-then-src-ne0 c).Start) (size (goal.at.After-map_to-then-src-ne0 c).Start) (drop k (src (goal.at.After-map_to-then-src-ne0 c).Start))) (take (length (src (goal.at.After-map_to-then-src-ne0 c).Start) - k) (src (goal.at.After-map_to-then-src-ne0 c).Start))
others c =
    let k = length (start (goal.at.After-map_to-then-src-ne0 c).Start) in
    let all : take (length (src (goal.at.After-map_to-then-src-ne0 c).Start) - k) (drop k (src (goal.at.After-map_to-then-src-ne0 c).Start)) ≡ drop k (src (goal.at.After-map_to-then-src-ne0 c).Start) = take_all (length (src (goal.at.After-map_to-then-src-ne0 c).Start) - k) (drop k (src (goal.at.After-map_to-then-src-ne0 c).Start)) (omega (arith, length-drop k (src (goal.at.After-map_to-then-src-ne0 c).Start))) in
    let source : length (take (length (src (goal.at.After-map_to-then-src-ne0 c).Start) - k) (drop k (src (goal.at.After-map_to-then-src-ne0 c).Start))) ≡ length (src (goal.at.After-map_to-then-src-ne0 c).Start) - k = part_length (src (goal.at.After-map_to-then-src-ne0 c).Start) k (length (src (goal.at.After-map_to-then-src-ne0 c).Start)) (within (goal.at.After-map_to-then-src-ne0 c).Then-src-ne0) (omega arith) in
    many_mapped c.args.n _ _ c.requires.0 (ap (λ (x : List ℕ). length x % size (goal.at.After-map_to-then-src-ne0 c).Start) all ∙ rest_whole (map (goal.at.After-map_to-then-src-ne0 c).Start) (size (goal.at.After-map_to-then-src-ne0 c).Start) (keeps (goal.at.After-map_to-then-src-ne0 c).Start) (positive (goal.at.After-map_to-then-src-ne0 c).Start) (start (goal.at.After-map_to-then-src-ne0 c).Start) (src (goal.at.After-map_to-then-src-ne0 c).Start) c.requires.1 c.requires.2 (within (goal.at.After-map_to-then-src-ne0 c).Then-src-ne0))
    (length-take-le (length (src (goal.at.After-map_to-then-src-ne0 c).Start) - k) (src (goal.at.After-map_to-then-src-ne0 c).Start) (omega arith) ∙ sym source)
    (part_length _ k _ (omega (arith, still (goal.at.After-map_to-then-src-ne0 c).After-map_to, within (goal.at.After-map_to-then-src-ne0 c).Then-src-ne0)) (omega arith) ∙ ap (λ (j : ℕ). j - k) (still (goal.at.After-map_to-then-src-ne0 c).After-map_to) ∙ sym source) c.map_to-then-src-ne0.ensures.number c.map_to-then-src-ne0.ensures.blocks
    ∙ ap (λ (x : List ℕ). xor_bytes (each_block (map (goal.at.After-map_to-then-src-ne0 c).Start) (size (goal.at.After-map_to-then-src-ne0 c).Start) x) (take (length (src (goal.at.After-map_to-then-src-ne0 c).Start) - k) (src (goal.at.After-map_to-then-src-ne0 c).Start))) all

pub returns-then-src-ne0 : goal.returns-then-src-ne0
returns-then-src-ne0 c =
    let k = length (start (goal.at.returns-then-src-ne0 c).Start) in
    part_to_end _ c.map_to-then-src-ne0.new.dst k
    ∙ ap₂ ◌++◌ (take_at _ (drop k (dst (goal.at.returns-then-src-ne0 c).Start)) k (first-length (goal.at.returns-then-src-ne0 c).After-map_to) ∙ first (goal.at.returns-then-src-ne0 c).After-map_to) (others (goal.at.returns-then-src-ne0 c).After-map_to-then-src-ne0)
    ∙ sym (cbc_open_pieces (map (goal.at.returns-then-src-ne0 c).Start) (size (goal.at.returns-then-src-ne0 c).Start) (keeps (goal.at.returns-then-src-ne0 c).Start) (positive (goal.at.returns-then-src-ne0 c).Start) (start (goal.at.returns-then-src-ne0 c).Start) (src (goal.at.returns-then-src-ne0 c).Start) c.requires.1 c.requires.2 (within (goal.at.returns-then-src-ne0 c).Then-src-ne0))

pub returns-else-src-ne0 : goal.returns-else-src-ne0
returns-else-src-ne0 c =
    no_block 0 (dst (goal.at.returns-else-src-ne0 c).Start) (omega (arith, c.requires.3, c.if-src-ne0.false))
    ∙ sym (no_block 0 _ (length_open (map (goal.at.returns-else-src-ne0 c).Start) (size (goal.at.returns-else-src-ne0 c).Start) (keeps (goal.at.returns-else-src-ne0 c).Start) (start (goal.at.returns-else-src-ne0 c).Start) (src (goal.at.returns-else-src-ne0 c).Start) c.requires.1 c.requires.2 ∙ c.if-src-ne0.false))
