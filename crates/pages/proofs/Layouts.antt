-- A page's record is read back to its parts, and what is read is the record of those parts.
-- Assumes nothing.
use mathlib.Core.Path.{◌≡◌, refl, sym, ap, ap₂, ◌∙◌}
use mathlib.Core.Bool.{true, false, ◌&&◌}
use mathlib.Core.List.{List, [], ◌++◌, append_assoc, append-nil}
use Prim.Native.Nat.{ℕ, ◌+◌, ◌-◌, ◌*◌, ◌/◌, ◌%◌, ◌^◌, ◌≤◌, ◌<◌}
use native.Mathlib.Omega.{arith}
use borrow.Author.Tests.{eq-eqb, eqb-true}
use lib.Dec.{eqb}
use lib.ListN.{length, take, drop, length-append, length-drop, drop_of_length-le}
use lib.Seq.{take_at, drop-drop}
use Rattle.forms.proofs.Bytes.{Bytes, take_bytes, drop_bytes}
use Rattle.forms.proofs.Booleans.{and_both}
use Rattle.forms.proofs.Strings.{same_refl, same_eq}
use Rattle.pages.specs.Pages.{Page, Widths, record_length, command, four_bytes, sealed_commands, front, layout, begins, operand, behind, four_byte_number, times15, sealed_operands, behind10, behind11, behind12, behind13, blocks, behind15, headed, ended, is_record, parts, with_tag, sealed_page, tagged, body}
use Rattle.pages.proofs.Commands.{begins_iff, begins_other, command_begins, command_operand, command_behind, command_of, operand_length, times_most, times_within, length_sealed_operands, times_commands, operands_commands, drop_commands, commands_operands, length_four_bytes, number_four_bytes, four_bytes_number, number_below}

-- ---- the record with its commands one after another

abbrev from13 : List ℕ → List ℕ → List ℕ
from13 c g = c ++ command 0x1F g

abbrev from12 : List ℕ → List ℕ → List ℕ → List ℕ
from12 s c g = command 0x13 s ++ from13 c g

abbrev from11 : List ℕ → List ℕ → List ℕ → List ℕ → List ℕ
from11 t s c g = command 0x12 t ++ from12 s c g

abbrev from10 : List ℕ → List ℕ → List ℕ → List ℕ → List ℕ → List ℕ
from10 b t s c g = command 0x11 b ++ from11 t s c g

abbrev nest : List ℕ → List ℕ → List ℕ → List ℕ → List ℕ → List ℕ → List ℕ
nest a b t s c g = command 0x10 a ++ from10 b t s c g

nest_front : (a b t s c g : List ℕ) → (command 0x10 a ++ (command 0x11 b ++ (command 0x12 t ++ (command 0x13 s ++ c)))) ++ command 0x1F g ≡ nest a b t s c g
nest_front a b t s c g = simp append_assoc

layout_nest : (p : Page) → layout p ≡ nest (four_bytes p.number) (four_bytes p.day) p.title p.start (sealed_commands (length p.sealed / 16) p.sealed) p.tag
unfolding layout front
layout_nest p = nest_front (four_bytes p.number) (four_bytes p.day) p.title p.start (sealed_commands (length p.sealed / 16) p.sealed) p.tag

-- the bytes 1F and 15 differ
tag_no_block : (g : List ℕ) → begins 0x15 16 (command 0x1F g) ≡ false
tag_no_block g = begins_other 0x15 16 (command 0x1F g) (λ e. omega arith)

-- ---- a record is read back to its parts

module _ (a b t s g z : List ℕ) (m : ℕ) (la : length a ≡ 4) (lb : length b ≡ 4) (lt : length t ≡ 32) (ls : length s ≡ 16) (lg : length g ≡ 16) (lz : length z ≡ 16 * m) (few : m ≤ 4096) where
  abbrev c : List ℕ
  c = sealed_commands m z

  abbrev r : List ℕ
  r = nest a b t s c g

  r10 : behind10 r ≡ from10 b t s c g
  r10 = command_behind 0x10 4 a (from10 b t s c g) la

  r11 : behind11 r ≡ from11 t s c g
  r11 = ap (behind 4) r10 ∙ command_behind 0x11 4 b (from11 t s c g) lb

  r12 : behind12 r ≡ from12 s c g
  r12 = ap (behind 32) r11 ∙ command_behind 0x12 32 t (from12 s c g) lt

  r13 : behind13 r ≡ from13 c g
  r13 = ap (behind 16) r12 ∙ command_behind 0x13 16 s (from13 c g) ls

  pub nest_blocks : blocks r ≡ m
  unfolding blocks
  nest_blocks = ap (times15 4096) r13 ∙ times_commands m 4096 z (command 0x1F g) (omega arith) few (tag_no_block g)

  r15 : behind15 r ≡ command 0x1F g
  unfolding behind15
  r15 = ap₂ (λ (k : ℕ) (x : List ℕ). drop (17 * k) x) nest_blocks r13 ∙ drop_commands m z (command 0x1F g) (omega arith)

  tag_alone : command 0x1F g ++ [] ≡ command 0x1F g
  tag_alone = append-nil (command 0x1F g)

  pub nest_headed : headed r ≡ true
  unfolding headed
  nest_headed =
      rw (r12, r11, r10, command_begins 0x10 4 a (from10 b t s c g) la, command_begins 0x11 4 b (from11 t s c g) lb, command_begins 0x12 32 t (from12 s c g) lt, command_begins 0x13 16 s (from13 c g) ls)

  nest_ended : ended (behind15 r) ≡ true
  unfolding ended
  nest_ended =
      ap (λ (x : List ℕ). begins 0x1F 16 x && eqb (length x) 17) r15
      ∙ ap₂ ◌&&◌ ((begins_iff 0x1F 16 (command 0x1F g)).1 (omega arith, refl)) (eq-eqb (length (command 0x1F g)) 17 (omega arith))

  pub nest_is_record : is_record r ≡ true
  unfolding is_record
  nest_is_record = ap₂ ◌&&◌ nest_headed nest_ended

  pub nest_parts : parts r ≡ record { number = four_byte_number a; day = four_byte_number b; title = t; start = s; sealed = z; tag = g }
  unfolding parts
  nest_parts =
      rw (command_operand 0x10 4 a (from10 b t s c g) la, ap (operand 4) r10 ∙ command_operand 0x11 4 b (from11 t s c g) lb, ap (operand 32) r11 ∙ command_operand 0x12 32 t (from12 s c g) lt, ap (operand 16) r12 ∙ command_operand 0x13 16 s (from13 c g) ls, nest_blocks, ap (sealed_operands m) r13 ∙ operands_commands m z (command 0x1F g) lz, ap (operand 16) r15 ∙ (ap (operand 16) (sym tag_alone) ∙ command_operand 0x1F 16 g [] lg))

-- the record of a page whose parts have their widths is a record, with as many blocks as it has, and is read back to its parts
module _ (p : Page) (w : Widths p) where
  abbrev m : ℕ
  m = length p.sealed / 16

  whole : length p.sealed ≡ 16 * m
  whole = omega (arith, w.whole)

  few : m ≤ 4096
  few = omega (arith, w.most)

  pub layout_is_record : is_record (layout p) ≡ true
  layout_is_record =
      rw (layout_nest p) (nest_is_record (four_bytes p.number) (four_bytes p.day) p.title p.start p.tag p.sealed m (length_four_bytes p.number) (length_four_bytes p.day) w.title w.start w.tag whole few)

  pub layout_blocks : blocks (layout p) ≡ length p.sealed / 16
  layout_blocks =
      rw (layout_nest p) (nest_blocks (four_bytes p.number) (four_bytes p.day) p.title p.start p.tag p.sealed m (length_four_bytes p.number) (length_four_bytes p.day) w.title w.start w.tag whole few)

  pub layout_parts : parts (layout p) ≡ p
  layout_parts =
      rw (layout_nest p)
      (nest_parts (four_bytes p.number) (four_bytes p.day) p.title p.start p.tag p.sealed m (length_four_bytes p.number) (length_four_bytes p.day) w.title w.start w.tag whole few
      ∙ ap₂ (λ (n d : ℕ). record { number = n; day = d; title = p.title; start = p.start; sealed = p.sealed; tag = p.tag })
      (number_four_bytes p.number w.number) (number_four_bytes p.day w.day))

-- ---- what is read is the record of the parts

pub record Layout (r : List ℕ) : Type 0 where
  pub at10 : begins 0x10 4 r ≡ true
  pub at11 : begins 0x11 4 (behind10 r) ≡ true
  pub at12 : begins 0x12 32 (behind11 r) ≡ true
  pub at13 : begins 0x13 16 (behind12 r) ≡ true
  pub at1_f : begins 0x1F 16 (behind15 r) ≡ true
  pub end : length (behind15 r) ≡ 17

-- a record has its commands
pub has_layout : (r : List ℕ) → is_record r ≡ true → Layout r
unfolding is_record headed ended
has_layout r e =
    let a = and_both (headed r) (ended (behind15 r)) e in
    let b = and_both (begins 0x10 4 r) _ a.0 in
    let c = and_both (begins 0x11 4 (behind10 r)) _ b.1 in
    let d = and_both (begins 0x12 32 (behind11 r)) _ c.1 in
    let f = and_both (begins 0x1F 16 (behind15 r)) _ a.1 in
    record { at10 = b.0; at11 = c.0; at12 = d.0; at13 = d.1; at1_f = f.0; end = eqb-true (length (behind15 r)) 17 f.1 }

module _ (r : List ℕ) (e : is_record r ≡ true) where
  abbrev l : Layout r
  l = has_layout r e

  blocks_few : blocks r ≤ 4096
  unfolding blocks
  blocks_few = times_most 4096 (behind13 r)

  blocks_within : 17 * blocks r ≤ length (behind13 r)
  unfolding blocks
  blocks_within = times_within 4096 (behind13 r)

  sealed_length : length (sealed_operands (blocks r) (behind13 r)) ≡ 16 * blocks r
  sealed_length = length_sealed_operands (blocks r) (behind13 r) blocks_within

  tag_last : behind15 r ≡ command 0x1F (operand 16 (behind15 r))
  tag_last =
      command_of 0x1F 16 (behind15 r) l.at1_f
      ∙ ap (λ (x : List ℕ). command 0x1F (operand 16 (behind15 r)) ++ x) (drop_of_length-le (behind15 r) {i = 17} (omega (arith, l.end)))
      ∙ append-nil (command 0x1F (operand 16 (behind15 r)))

  blocks_then : behind13 r ≡ sealed_commands (blocks r) (sealed_operands (blocks r) (behind13 r)) ++ command 0x1F (operand 16 (behind15 r))
  unfolding behind15 blocks
  blocks_then =
      commands_operands (blocks r) 4096 (behind13 r) (omega arith)
      ∙ ap (λ (x : List ℕ). sealed_commands (blocks r) (sealed_operands (blocks r) (behind13 r)) ++ x) tag_last

  -- its bytes, command by command
  pub record_nest : r ≡ nest (operand 4 r) (operand 4 (behind10 r)) (operand 32 (behind11 r)) (operand 16 (behind12 r)) (sealed_commands (blocks r) (sealed_operands (blocks r) (behind13 r))) (operand 16 (behind15 r))
  record_nest =
      command_of 0x10 4 r l.at10
      ∙ ap (λ (x : List ℕ). command 0x10 (operand 4 r) ++ x)
      (command_of 0x11 4 (behind10 r) l.at11
      ∙ ap (λ (x : List ℕ). command 0x11 (operand 4 (behind10 r)) ++ x)
      (command_of 0x12 32 (behind11 r) l.at12
      ∙ ap (λ (x : List ℕ). command 0x12 (operand 32 (behind11 r)) ++ x)
      (command_of 0x13 16 (behind12 r) l.at13 ∙ ap (λ (x : List ℕ). command 0x13 (operand 16 (behind12 r)) ++ x) blocks_then)))

  -- 77 bytes, and 17 for each block
  pub record_length_lem : length r ≡ 77 + 17 * blocks r
  unfolding behind15
  record_length_lem =
      let a = ((begins_iff 0x13 16 (behind12 r)).0 l.at13).0 in
      let b = ((begins_iff 0x12 32 (behind11 r)).0 l.at12).0 in
      let c = ((begins_iff 0x11 4 (behind10 r)).0 l.at11).0 in
      let d = ((begins_iff 0x10 4 r).0 l.at10).0 in
      let f : length (behind15 r) ≡ length (behind13 r) - 17 * blocks r = length-drop (17 * blocks r) (behind13 r) in
      omega (arith, length-drop 5 r, length-drop 5 (behind10 r), length-drop 33 (behind11 r), length-drop 17 (behind12 r), l.end, blocks_within)

  pub record_blocks : blocks r ≤ 4096
  record_blocks = blocks_few

  -- the title is bytes 11 to 42
  pub record_title : (parts r).title ≡ take 32 (drop 11 r)
  unfolding parts
  record_title = ap (take 32) (ap (drop 1) (drop-drop 5 5 r) ∙ drop-drop 1 10 r)

  -- its parts have their widths
  pub record_widths : Bytes r → Widths (parts r)
  unfolding parts
  record_widths h =
      record {
        number = number_below (operand 4 r) (take_bytes 4 (drop 1 r) (drop_bytes 1 r h));
        day = number_below (operand 4 (behind10 r)) (take_bytes 4 (drop 1 (behind10 r)) (drop_bytes 1 (behind10 r) (drop_bytes 5 r h)));
        title = operand_length 0x12 32 (behind11 r) l.at12;
        start = operand_length 0x13 16 (behind12 r) l.at13;
        whole = omega (arith, sealed_length);
        most = omega (arith, sealed_length, blocks_few);
        tag = operand_length 0x1F 16 (behind15 r) l.at1_f;
      }

  -- and the record of its parts is itself
  pub record_parts : Bytes r → layout (parts r) ≡ r
  unfolding parts
  record_parts h =
      let n = four_bytes_number (operand 4 r) (operand_length 0x10 4 r l.at10) (take_bytes 4 (drop 1 r) (drop_bytes 1 r h)) in
      let d = four_bytes_number (operand 4 (behind10 r)) (operand_length 0x11 4 (behind10 r) l.at11) (take_bytes 4 (drop 1 (behind10 r)) (drop_bytes 1 (behind10 r) (drop_bytes 5 r h))) in
      let k : length (sealed_operands (blocks r) (behind13 r)) / 16 ≡ blocks r = omega (arith, sealed_length) in
      layout_nest (parts r)
      ∙ ap₂ (λ (a b : List ℕ). nest a b (operand 32 (behind11 r)) (operand 16 (behind12 r)) (sealed_commands (length (sealed_operands (blocks r) (behind13 r)) / 16) (sealed_operands (blocks r) (behind13 r))) (operand 16 (behind15 r))) n d
      ∙ ap (λ (i : ℕ). nest (operand 4 r) (operand 4 (behind10 r)) (operand 32 (behind11 r)) (operand 16 (behind12 r)) (sealed_commands i (sealed_operands (blocks r) (behind13 r))) (operand 16 (behind15 r))) k
      ∙ sym record_nest

  -- 'all bytes before 1F' are all but the last 17
  pub record_front : Bytes r → front (parts r) ≡ take (length r - 17) r
  unfolding layout
  record_front h =
      let p = parts r in
      let e = record_parts h in
      let w = (record_widths h).tag in
      let k : length (front p) ≡ length r - 17 = omega (arith, ap length e, length-append (front p) (command 0x1F p.tag)) in
      sym (take_at (front p) (command 0x1F p.tag) (length r - 17) k) ∙ ap (take (length r - 17)) e

-- the record of a page whose parts have their widths has the length that its blocks make
pub layout_length : (p : Page) → Widths p → length (layout p) ≡ record_length (length p.sealed / 16)
unfolding record_length
layout_length p w = record_length_lem (layout p) (layout_is_record p w) ∙ ap (λ (k : ℕ). 77 + 17 * k) (layout_blocks p w)

-- ---- sealed and tagged

module _ (tag : List ℕ → List ℕ) (p : Page) where
  -- a tag is no part of the bytes that it is made of, so a page is tagged once its tag is made
  pub with_tag_tagged : tagged tag (with_tag tag p) ≡ true
  unfolding tagged with_tag front
  with_tag_tagged = same_refl (tag (front p))

  -- only a page with the tag of its own bytes before 1F is tagged
  pub tagged_tag : tagged tag p ≡ true → p.tag ≡ tag (front p)
  unfolding tagged
  tagged_tag e = sym (same_eq (tag (front p)) p.tag e)

-- what the writer is handed, and what sealing and the tag give
pub record Handed (seal : List ℕ → List ℕ → List ℕ) (tag : List ℕ → List ℕ) (number day : ℕ) (title start text : List ℕ) : Type 0 where
  pub small : (number < 2 ^ 32) × (day < 2 ^ 32)
  pub titled : length title ≡ 32
  pub started : length start ≡ 16
  pub whole : length text % 16 ≡ 0
  pub most : length text ≤ 16 * 4096
  pub sealed : length (seal start text) ≡ length text
  pub tags : (bytes : List ℕ) → length (tag bytes) ≡ 16

module _ (seal unseal : List ℕ → List ℕ → List ℕ) (tag : List ℕ → List ℕ) (number day : ℕ) (title start text : List ℕ) (h : Handed seal tag number day title start text) where
  abbrev page : Page
  page = sealed_page seal tag number day title start text

  pub sealed_page_widths : Widths page
  unfolding sealed_page with_tag
  sealed_page_widths =
      let e = h.sealed in
      let f = h.whole in
      let g = h.most in
      record { number = h.small.0; day = h.small.1; title = h.titled; start = h.started; whole = omega arith; most = omega arith; tag = h.tags _ }

  -- a record that is written is read back to what was handed in
  pub written_read : (is_record (layout page) ≡ true) × (parts (layout page) ≡ page) × (blocks (layout page) ≡ length text / 16)
  unfolding sealed_page with_tag
  written_read =
      let w = sealed_page_widths in
      (layout_is_record page w, layout_parts page w, layout_blocks page w ∙ ap (λ (k : ℕ). k / 16) h.sealed)

  -- its tag is good
  pub written_tagged : tagged tag (parts (layout page)) ≡ true
  unfolding sealed_page
  written_tagged = ap (tagged tag) written_read.1 ∙ with_tag_tagged tag _

  -- and its body is the one that was sealed, where opening undoes sealing
  pub written_body : unseal start (seal start text) ≡ text → body unseal (parts (layout page)) ≡ text
  unfolding body sealed_page with_tag
  written_body e = ap (body unseal) written_read.1 ∙ e
