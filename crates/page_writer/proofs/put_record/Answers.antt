-- The head, the blocks and the tag of both.
-- Assumes nothing.
use mathlib.Core.Path.{◌≡◌, refl, sym, ap, ◌∙◌}
use mathlib.Core.List.{List, ◌++◌}
use Prim.Native.Nat.{ℕ, ◌+◌, ◌-◌, ◌*◌, ◌/◌, ◌≤◌}
use native.Mathlib.Omega.{arith}
use lib.ListN.{length, take, drop}
use lib.Seq.{length-take-le}
use Rattle.forms.proofs.Parts.{part_length, part_to_end}
use Rattle.modes.proofs.Maps.{keeps_one}
use Rattle.modes.proofs.Cbc.{length_seal}
use Rattle.modes.proofs.Cmac.{length_tag}
use Rattle.sets.specs.Sets.{parts_in}
use Rattle.pages.specs.Pages.{command}
use Rattle.keyed_pages.specs.Keyed.{seal_under, tag_under, written}
use Rattle.keyed_pages.proofs.Refusals.{Write_taken, write_taken}
use Rattle.page_heads.proofs.Puts.{with_part, put_part}
use Rattle.page_writer.proofs.Puts.{head_done, command_done, before_last, head, head_length, page_laid}
use Rattle.page_writer.proofs.put_record.Goals as goal
use Rattle.page_writer.proofs.put_record.Goals.{After-put_blocks, After-put_head, Start}

-- what is handed in
module _ (s : Start) where
  abbrev title : List ℕ
  title = s.args.title.now

  abbrev start : List ℕ
  start = s.args.start.now

  abbrev text : List ℕ
  text = s.args.body.now

  abbrev room : List ℕ
  room = s.args.d.now

  taken : Write_taken s.args.store s.args.sealing s.args.tagging (length title) (length start) (length text) (length room)
  taken = write_taken _ _ _ _ _ _ _ refl s.requires

  -- where the blocks end
  abbrev at : ℕ
  at = 60 + 17 * (length text / 16)

  sealed-long : length (seal_under s.args.store s.args.sealing start text) ≡ length text
  unfolding seal_under
  sealed-long =
      let k = s.args.sealing in
      length_seal _ 16 (keeps_one (parts_in s.args.store k.set) k.n k.words taken.keys.sealing_one) start text taken.whole

  tag-long : (m : List ℕ) → length (tag_under s.args.store s.args.tagging m) ≡ 16
  unfolding tag_under
  tag-long m =
      let k = s.args.tagging in
      length_tag _ (keeps_one (parts_in s.args.store k.set) k.n k.words taken.keys.tagging_one) 16 m (omega arith)

pub overflow_sub-covered : goal.overflow_sub-covered
overflow_sub-covered c = omega (arith, (taken (goal.at.overflow_sub-covered c).Start).long)

pub slice_bounds-put_head-end : goal.slice_bounds-put_head-end
slice_bounds-put_head-end c = omega (arith, (taken (goal.at.slice_bounds-put_head-end c).Start).long)

-- the head as it comes back
module _ (q : After-put_head) where
  abbrev hd : List ℕ
  hd = q.put_head.new.d

  abbrev begin-head : Start
  begin-head = (goal.at.After-put_head q).Start

  head-put : let s = begin-head in hd ≡ head s.args.number s.args.day (title s) (start s)
  head-put =
      let s = begin-head in
      let e = q.put_head.ensures in
      head_done (head s.args.number s.args.day (title s) (start s)) _ (taken s).titled (taken s).started (part_length (room s) 0 60 (omega arith) (omega (arith, (taken s).long))) e.number e.bytes

  long-hd : length hd ≡ 60
  long-hd = let s = begin-head in ap length head-put ∙ head_length s.args.number s.args.day (title s) (start s) (taken s).titled (taken s).started

  kept-hd : length (with_part (room begin-head) hd 0 60) ≡ length (room begin-head)
  kept-hd = (put_part (room begin-head) hd 0 60 (omega arith) (omega (arith, (taken begin-head).long)) long-hd).kept

pub slice_bounds-put_blocks-end : goal.slice_bounds-put_blocks-end
slice_bounds-put_blocks-end c = omega (arith, (taken (goal.at.slice_bounds-put_blocks-end c).Start).long, kept-hd (goal.at.slice_bounds-put_blocks-end c).After-put_head)

pub put_blocks-requires : goal.put_blocks-requires
put_blocks-requires c =
    let s = begin-head (goal.at.put_blocks-requires c).After-put_head in
    let t = taken s in
    let l : at s ≤ length (with_part (room s) (hd (goal.at.put_blocks-requires c).After-put_head) 0 60) = omega (arith, t.long, kept-hd (goal.at.put_blocks-requires c).After-put_head) in
    (search t.keys, search t.keys, t.started, t.whole, part_length (with_part (room s) (hd (goal.at.put_blocks-requires c).After-put_head) 0 60) 60 (at s) (omega arith) l ∙ omega arith)

-- the blocks as they come back
module _ (q : After-put_blocks) where
  abbrev before-blocks : After-put_head
  before-blocks = (goal.at.After-put_blocks q).After-put_head

  abbrev begin : Start
  begin = begin-head before-blocks

  abbrev bl : List ℕ
  bl = q.put_blocks.new.d

  abbrev both : List ℕ
  both = with_part (with_part (room begin) (hd before-blocks) 0 60) bl 60 (at begin)

  long-bl : length bl ≡ at begin - 60
  long-bl =
      let d = with_part (room begin) (hd before-blocks) 0 60 in
      q.put_blocks.auto.d ∙ part_length d 60 (at begin) (omega arith) (omega (arith, (taken begin).long, kept-hd before-blocks))

  fits : at begin + 17 ≤ length (room begin)
  fits = omega (arith, (taken begin).long)

  kept-bl : length both ≡ length (room begin)
  kept-bl =
      (put_part (with_part (room begin) (hd before-blocks) 0 60) bl 60 (at begin) (omega arith) (omega (arith, fits, kept-hd before-blocks)) long-bl).kept
      ∙ kept-hd before-blocks

  -- all bytes before 1F
  front : take (at begin) both ≡ hd before-blocks ++ bl
  front = before_last (room begin) (hd before-blocks) bl (at begin) (omega arith) fits (long-hd before-blocks) long-bl

pub slice_bounds-tag_of-end : goal.slice_bounds-tag_of-end
slice_bounds-tag_of-end c = omega (arith, fits (goal.at.slice_bounds-tag_of-end c).After-put_blocks, kept-bl (goal.at.slice_bounds-tag_of-end c).After-put_blocks)

pub slice_bounds-tag_of-end-2 : goal.slice_bounds-tag_of-end-2
slice_bounds-tag_of-end-2 c = sym (length-take-le _ (both (goal.at.slice_bounds-tag_of-end-2 c).After-put_blocks) (omega (arith, kept-bl (goal.at.slice_bounds-tag_of-end-2 c).After-put_blocks)))

pub tag_of-tag-requires : goal.tag_of-tag-requires
tag_of-tag-requires c = let k = (taken (begin (goal.at.tag_of-tag-requires c).After-put_blocks)).keys in (search k, search k)

pub slice_bounds-put_command-count : goal.slice_bounds-put_command-count
slice_bounds-put_command-count c = omega (arith, fits (goal.at.slice_bounds-put_command-count c).After-put_blocks, kept-bl (goal.at.slice_bounds-put_command-count c).After-put_blocks)

pub slice_bounds-put_command-start : goal.slice_bounds-put_command-start
slice_bounds-put_command-start c = omega (arith, fits (goal.at.slice_bounds-put_command-start c).After-put_blocks, kept-bl (goal.at.slice_bounds-put_command-start c).After-put_blocks)

pub slice_bounds-put_command-end : goal.slice_bounds-put_command-end
slice_bounds-put_command-end c = omega (arith, fits (goal.at.slice_bounds-put_command-end c).After-put_blocks, kept-bl (goal.at.slice_bounds-put_command-end c).After-put_blocks)

pub returns : goal.returns
unfolding written
returns c =
    let s = begin (goal.at.returns c).After-put_blocks in
    let g = s.args in
    let h = hd (before-blocks (goal.at.returns c).After-put_blocks) in
    let k = c.put_command in
    let tag = tag_under g.store g.tagging in
    let covered : length (room s) - 17 ≡ at s = omega (arith, (taken s).long) in
    let e : c.tag_of-tag.result ≡ tag (h ++ bl (goal.at.returns c).After-put_blocks) = c.tag_of-tag.ensures ∙ ap tag (ap (λ (i : ℕ). take i (both (goal.at.returns c).After-put_blocks)) covered ∙ front (goal.at.returns c).After-put_blocks) in
    let l : length c.tag_of-tag.result ≡ 16 = ap length e ∙ tag-long s (h ++ bl (goal.at.returns c).After-put_blocks) in
    let p = part_length (both (goal.at.returns c).After-put_blocks) (at s) (length (both (goal.at.returns c).After-put_blocks)) (omega (arith, fits (goal.at.returns c).After-put_blocks, kept-bl (goal.at.returns c).After-put_blocks)) (omega arith) in
    let r : length (take (length (both (goal.at.returns c).After-put_blocks) - at s) (drop (at s) (both (goal.at.returns c).After-put_blocks))) ≡ 1 + length c.tag_of-tag.result = omega (arith, p, l, kept-bl (goal.at.returns c).After-put_blocks, (taken s).long) in
    let f : k.new.d ≡ command 0x1F (tag (h ++ bl (goal.at.returns c).After-put_blocks)) = command_done (command 0x1F c.tag_of-tag.result) _ _ _ r k.ensures.number k.ensures.bytes ∙ ap (command 0x1F) e in
    part_to_end (both (goal.at.returns c).After-put_blocks) k.new.d (at s) ∙ ap (λ (x : List ℕ). x ++ k.new.d) (front (goal.at.returns c).After-put_blocks)
    ∙ page_laid (seal_under g.store g.sealing) tag g.number g.day (title s) (start s) (text s) (head-put (before-blocks (goal.at.returns c).After-put_blocks)) c.put_blocks.ensures (sealed-long s) f
