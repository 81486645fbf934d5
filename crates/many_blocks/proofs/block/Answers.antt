-- The mapped block stands in the first of the 64 bytes, and is XORed with the mask.
-- Assumes nothing.
use mathlib.Core.Path.{◌≡◌, sym, ap, ◌∙◌}
use mathlib.Core.Bool.{Bool}
use mathlib.Core.List.{List}
use Prim.Native.Nat.{ℕ}
use native.Mathlib.Omega.{arith}
use lib.ListN.{length, take, length-take}
use lib.Seq.{length-take-le}
use Rattle.forms.specs.Lists.{when}
use Rattle.forms.proofs.Strings.{xor_bytes_comm}
use Rattle.forms.proofs.Parts.{take_filled}
use Rattle.strings.proofs.Laying.{xor_whole}
use Rattle.labyrinth.specs.Lent.{lent}
use Rattle.labyrinth.proofs.Lent.{table_lendable, lent_length, lent_block}
use Rattle.many_blocks.proofs.block.Goals as goal
use Rattle.many_blocks.proofs.block.Goals.{then-own, else-own}
use Rattle.many_blocks.proofs.block.Goals.{Joined-own, Start}

pub slice_bounds-map_block-end-then-own : goal.slice_bounds-map_block-end-then-own
slice_bounds-map_block-end-then-own c = sym (length-take-le _ c.zero_block-mapped.result (omega arith))

pub slice_bounds-map_block-end-else-own-2 : goal.slice_bounds-map_block-end-else-own-2
slice_bounds-map_block-end-else-own-2 c = sym (length-take-le _ c.zero_block-mapped.result (omega arith))

-- what is mapped, by own, and the mapped block
read : Start → Bool → List ℕ
read s own = when own s.args.dst.now s.args.src.now

map : Start → List ℕ → List ℕ
map s b = lent s.args.n s.args.t.now s.args.s.now s.args.u.now s.args.ks.now b

abbrev made : Start → List ℕ
made s = map s (read s s.args.own)

made-length : (s : Start) → length (made s) ≡ length s.args.dst.now
unfolding map
made-length s = lent_length s.args.n s.args.t.now s.args.s.now s.args.u.now s.args.ks.now (read s s.args.own) ∙ sym s.requires.3

-- by either arm it stands in front of the 64 bytes
in-front : (c : Joined-own) → take (length c.args.dst.now) c.if-own.mapped ≡ made (goal.at.Joined-own c).Start
unfolding map read
in-front c =
    let room = length-take-le (length c.args.dst.now) c.zero_block-mapped.result (omega arith) ∙ c.requires.3 in
    elim c.if-own.branch [
      | then-own p ↦ ap (take (length c.args.dst.now)) p.mapped-is
          ∙ take_filled (length c.args.dst.now) (made (goal.at.Joined-own c).Start) _ (made-length (goal.at.Joined-own c).Start)
          (lent_block c.args.n (map (goal.at.Joined-own c).Start c.args.dst.now) _ c.requires.0 (table_lendable c.args.t.now p.map_block-arg-1.given) c.requires.3 room p.map_block.ensures.number p.map_block.ensures.block
          ∙ ap (λ (b : Bool). map (goal.at.Joined-own c).Start (read (goal.at.Joined-own c).Start b)) (sym p.if-own.true))
      | else-own p ↦ ap (take (length c.args.dst.now)) p.mapped-is
          ∙ take_filled (length c.args.dst.now) (made (goal.at.Joined-own c).Start) _ (made-length (goal.at.Joined-own c).Start)
          (lent_block c.args.n (map (goal.at.Joined-own c).Start c.args.src.now) _ c.requires.0 (table_lendable c.args.t.now p.map_block-arg-else-own-1.given) c.requires.1 room p.map_block-else-own.ensures.number p.map_block-else-own.ensures.block
          ∙ ap (λ (b : Bool). map (goal.at.Joined-own c).Start (read (goal.at.Joined-own c).Start b)) (sym p.if-own.false))
    ]

pub slice_bounds-mapped-end-2 : goal.slice_bounds-mapped-end-2
slice_bounds-mapped-end-2 c =
    omega (arith, length-take (length c.args.dst.now) c.if-own.mapped, ap length (in-front (goal.at.slice_bounds-mapped-end-2 c).Joined-own), made-length (goal.at.slice_bounds-mapped-end-2 c).Start)

pub slice_bounds-xor_to-end : goal.slice_bounds-xor_to-end
slice_bounds-xor_to-end c = sym (ap length (in-front (goal.at.slice_bounds-xor_to-end c).Joined-own) ∙ made-length (goal.at.slice_bounds-xor_to-end c).Start)

pub returns : goal.returns
unfolding map read
returns c =
    xor_whole c.args.mask.now (made (goal.at.returns c).Start) c.args.dst.now (omega (arith, made-length (goal.at.returns c).Start)) (omega arith) c.xor_to.ensures (in-front (goal.at.returns c).Joined-own)
    ∙ xor_bytes_comm c.args.mask.now (made (goal.at.returns c).Start)
