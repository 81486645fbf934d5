-- The XOR of the block and the chain stands in the first of the 64 bytes, and is mapped to the next chain.
-- Assumes nothing.
use mathlib.Core.Path.{◌≡◌, refl, sym, ap, ◌∙◌}
use mathlib.Core.List.{List, ◌++◌}
use Prim.Native.Nat.{ℕ}
use native.Mathlib.Omega.{arith}
use lib.ListN.{length, take, drop, length-append}
use lib.Seq.{length-take-le}
use Rattle.forms.specs.Strings.{xor_bytes}
use Rattle.forms.proofs.Strings.{length_xor_bytes}
use Rattle.forms.proofs.Parts.{take_filled}
use Rattle.strings.proofs.Laying.{xor_whole}
use Rattle.labyrinth.specs.Lent.{lent}
use Rattle.labyrinth.proofs.Lent.{table_lendable, lent_block}
use Rattle.chains.proofs.link.Goals as goal
use Rattle.chains.proofs.link.Goals.{After-xor_to, Start}

-- what is mapped
abbrev mixed : Start → List ℕ
mixed s = xor_bytes s.args.src.now s.args.c.now

mixed-length : (s : Start) → length (mixed s) ≡ length s.args.c.now
mixed-length s = length_xor_bytes s.args.src.now s.args.c.now (omega arith) ∙ s.requires.2 ∙ sym s.requires.1

pub slice_bounds-xor_to-end : goal.slice_bounds-xor_to-end
slice_bounds-xor_to-end c = sym (length-take-le _ c.zero_block-x.result (omega arith))

-- what was written to the 64 bytes
written : (c : After-xor_to) → c.xor_to.new.d ≡ mixed (goal.at.After-xor_to c).Start
written c =
    xor_whole c.args.src.now c.args.c.now (take (length c.args.c.now) c.zero_block-x.result) (omega arith)
    (length-take-le _ c.zero_block-x.result (omega arith) ∙ c.requires.1 ∙ sym c.requires.2) c.xor_to.ensures refl

in-front : (c : After-xor_to) (rest : List ℕ) → take (length c.args.c.now) (c.xor_to.new.d ++ rest) ≡ mixed (goal.at.After-xor_to c).Start
in-front c rest = take_filled (length c.args.c.now) (mixed (goal.at.After-xor_to c).Start) rest (mixed-length (goal.at.After-xor_to c).Start) (written c)

pub slice_bounds-x-end-2 : goal.slice_bounds-x-end-2
slice_bounds-x-end-2 c =
    omega (arith, length-append c.xor_to.new.d (drop (length c.args.c.now) c.zero_block-x.result), ap length (written (goal.at.slice_bounds-x-end-2 c).After-xor_to), mixed-length (goal.at.slice_bounds-x-end-2 c).Start)

pub slice_bounds-map_block-end-2 : goal.slice_bounds-map_block-end-2
slice_bounds-map_block-end-2 c =
    sym (ap length (in-front (goal.at.slice_bounds-map_block-end-2 c).After-xor_to _) ∙ mixed-length (goal.at.slice_bounds-map_block-end-2 c).Start)

pub returns : goal.returns
returns c =
    let map = c.map_block in
    lent_block c.args.n _ c.args.c.now c.requires.0 (table_lendable c.args.t.now c.map_block-arg-1.given) (ap length (in-front (goal.at.returns c).After-xor_to _) ∙ mixed-length (goal.at.returns c).Start ∙ c.requires.1) c.requires.1
    map.ensures.number map.ensures.block
    ∙ ap (lent c.args.n c.args.t.now c.args.s.now c.args.u.now c.args.ks.now) (in-front (goal.at.returns c).After-xor_to _)
