-- The enciphered counter block stands in the first of the 64 bytes.
-- Assumes nothing.
use mathlib.Core.Path.{◌≡◌, sym, ap, ◌∙◌}
use mathlib.Core.List.{List}
use Prim.Native.Nat.{ℕ}
use native.Mathlib.Omega.{arith}
use lib.ListN.{length, drop, length-append}
use lib.Seq.{length-take-le}
use Rattle.forms.proofs.Parts.{take_filled}
use Rattle.strings.proofs.Laying.{xor_whole}
use Rattle.labyrinth.specs.Lent.{lent}
use Rattle.labyrinth.proofs.Lent.{table_lendable, lent_block}
use Rattle.modes.proofs.Maps.{keeps_lent}
use Rattle.ctr_lent.proofs.ctr_block.Goals as goal
use Rattle.ctr_lent.proofs.ctr_block.Goals.{After-map_block, Start}

-- the enciphered counter block, and its length
abbrev key : Start → List ℕ
key s = lent s.args.n s.args.t.now s.args.s.now s.args.u.now s.args.ks.now s.args.counter.now

key-length : (s : Start) → length (key s) ≡ length s.args.counter.now
key-length s = (keeps_lent s.args.n s.args.t.now s.args.s.now s.args.u.now s.args.ks.now).len s.args.counter.now ∙ sym s.requires.1

pub slice_bounds-map_block-end-2 : goal.slice_bounds-map_block-end-2
slice_bounds-map_block-end-2 c = sym (length-take-le _ c.zero_block-stream.result (omega arith))

-- what was written to the 64 bytes
written : (c : After-map_block) → c.map_block.new.dst ≡ key (goal.at.After-map_block c).Start
written c =
    lent_block c.args.n (key (goal.at.After-map_block c).Start) _ c.requires.0 (table_lendable c.args.t.now c.map_block-arg-1.given) c.requires.1 (length-take-le _ c.zero_block-stream.result (omega arith) ∙ c.requires.1)
    c.map_block.ensures.number c.map_block.ensures.block

pub slice_bounds-stream-end-2 : goal.slice_bounds-stream-end-2
slice_bounds-stream-end-2 c =
    omega (arith, length-append c.map_block.new.dst (drop (length c.args.counter.now) c.zero_block-stream.result), ap length (written (goal.at.slice_bounds-stream-end-2 c).After-map_block), key-length (goal.at.slice_bounds-stream-end-2 c).Start)

pub slice_bounds-xor_to-end : goal.slice_bounds-xor_to-end
slice_bounds-xor_to-end c =
    sym (ap length (take_filled (length c.args.counter.now) (key (goal.at.slice_bounds-xor_to-end c).Start) _ (key-length (goal.at.slice_bounds-xor_to-end c).Start) (written (goal.at.slice_bounds-xor_to-end c).After-map_block)) ∙ key-length (goal.at.slice_bounds-xor_to-end c).Start)

pub returns : goal.returns
returns c =
    xor_whole c.args.src.now (key (goal.at.returns c).Start) c.args.dst.now (omega (arith, key-length (goal.at.returns c).Start)) c.requires.3
    c.xor_to.ensures (take_filled (length c.args.counter.now) (key (goal.at.returns c).Start) _ (key-length (goal.at.returns c).Start) (written (goal.at.returns c).After-map_block))
