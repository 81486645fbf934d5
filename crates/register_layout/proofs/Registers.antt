-- Nothing of a register is lost at the boundary: one that is written and read back is itself, and so are bytes that are read and written back. One more
-- entry changes the count's bytes, and puts its own.
-- Assumes nothing.
use mathlib.Core.Path.{◌≡◌, sym, ap, ap₂, ◌∙◌}
use mathlib.Core.List.{List, ◌++◌}
use Prim.Native.Nat.{ℕ, ◌+◌, ◌*◌, ◌/◌, ◌%◌, ◌^◌, ◌<◌}
use native.Mathlib.Nat.{zero-add, mod-eq_of_lt}
use native.Mathlib.Omega.{arith}
use lib.ListN.{length, get_or, take, drop, length-append, length-drop, take-append-drop, get_or-append}
use lib.Seq.{get_or-drop, get_or-append-add, ext_get_or}
use Rattle.forms.specs.Lists.{tabulate, words_from}
use Rattle.forms.specs.Words.{byte}
use Rattle.forms.proofs.Lists.{length_tabulate, get_d_tabulate, tabulate_cong, tabulated, take_tabulate}
use Rattle.forms.proofs.Words.{byte_join, join_byte, join_cong}
use Rattle.forms.proofs.Bytes.{Bytes}
use Rattle.forms.proofs.Buffers.{put}
use Rattle.buffers.specs.Words.{word_at}
use Rattle.buffers.proofs.Words.{word_at_lem}
use Rattle.registers.specs.declared.Entry.{Entry}
use Rattle.registers.specs.declared.Register.{Register}
use Rattle.registers.specs.Registers.{blank, extended}
use Rattle.register_layout.specs.Layout.{entry_in, entry_bytes, register_in, entries_bytes, register_bytes}
use Rattle.register_layout.proofs.Entries.{Fitting, Keys, entry_like, entry_in_entry_bytes, entry_bytes_entry_in, length_entries_bytes, entry_there, entry_set, put_behind}

-- a count of 64 bits, and 64 entries
pub record Whole (r : Register) : Type 0 where
  pub count : r.count < 2 ^ 64
  pub entries : length r.entries ≡ 64
  pub each : (i : ℕ) → i < 64 → Fitting (get_or r.entries i blank)

made : ℕ → List Entry → Register
made count entries = record { count = count; entries = entries }

module _ (r : Register) (w : Whole r) where
  keys : Keys r.entries
  keys = record { key = λ i l. (w.each i (omega (arith, w.entries))).key }

  all : length (entries_bytes r.entries) ≡ 2816
  all = length_entries_bytes r.entries keys ∙ omega (arith, w.entries)

  pub length_register_bytes : length (register_bytes r) ≡ 2824
  unfolding register_bytes
  length_register_bytes = length-append (tabulate 8 (byte r.count)) (entries_bytes r.entries) ∙ ap₂ ◌+◌ (length_tabulate 8 (byte r.count)) all

  count_back : word_at (register_bytes r) 0 ≡ r.count
  unfolding register_bytes
  count_back =
      let t : ℕ → ℕ = byte r.count in
      let long : length (tabulate 8 t) ≡ 8 = length_tabulate 8 t in
      word_at_lem (tabulate 8 t ++ entries_bytes r.entries) 0 (omega (arith, length_register_bytes))
      ∙ join_cong 8 (λ i. get_or (tabulate 8 t ++ entries_bytes r.entries) (0 + i) 0) t
      (λ i l. ap (λ (k : ℕ). get_or (tabulate 8 t ++ entries_bytes r.entries) k 0) (zero-add i)
      ∙ get_or-append (tabulate 8 t) (entries_bytes r.entries) 0 i (omega arith) ∙ get_d_tabulate 8 t 0 i l)
      ∙ join_byte 8 r.count ∙ mod-eq_of_lt w.count

  -- what stands behind the count
  behind : (i j : ℕ) → get_or (register_bytes r) (8 + 44 * i + j) 0 ≡ get_or (entries_bytes r.entries) (44 * i + j) 0
  unfolding register_bytes
  behind i j =
      let t : List ℕ = tabulate 8 (byte r.count) in
      let q : 8 + 44 * i + j ≡ length t + (44 * i + j) = omega (arith, length_tabulate 8 (byte r.count)) in
      ap (λ (k : ℕ). get_or (t ++ entries_bytes r.entries) k 0) q ∙ get_or-append-add t (entries_bytes r.entries) (44 * i + j) 0

  entry_back : (i : ℕ) → i < 64 → entry_in (register_bytes r) (8 + 44 * i) ≡ get_or r.entries i blank
  entry_back i l =
      let e = get_or r.entries i blank in
      entry_like (register_bytes r) (entry_bytes e) (8 + 44 * i) 0 (λ j m.
      behind i j ∙ entry_there r.entries keys i j (omega (arith, w.entries)) m ∙ ap (λ (k : ℕ). get_or (entry_bytes e) k 0) (sym (zero-add j)))
      ∙ entry_in_entry_bytes e (w.each i l)

  pub register_in_register_bytes : register_in (register_bytes r) ≡ r
  unfolding register_in made
  register_in_register_bytes =
      ap₂ made count_back (sym (tabulated 64 (λ i. entry_in (register_bytes r) (8 + 44 * i)) blank r.entries w.entries (λ i l. sym (entry_back i l))))

-- ---- bytes that are read

pub length_read : (b : List ℕ) → length (register_in b).entries ≡ 64
unfolding register_in
length_read b = length_tabulate 64 (λ i. entry_in b (8 + 44 * i))

module _ (b : List ℕ) (h : length b ≡ 2824) (small : Bytes b) where
  read : List Entry
  read = tabulate 64 (λ i. entry_in b (8 + 44 * i))

  count_kept : tabulate 8 (byte (word_at b 0)) ≡ take 8 b
  count_kept =
      tabulate_cong 8 (byte (word_at b 0)) (λ i. get_or b i 0)
      (λ i l. ap (λ (w : ℕ). byte w i) (word_at_lem b 0 (omega arith)) ∙ byte_join 8 (λ k. get_or b (0 + k) 0) (λ k. small (0 + k)) i l ∙ ap (λ (k : ℕ). get_or b k 0) (zero-add i))
      ∙ sym (take_tabulate 8 b (omega arith))

  each_read : (i : ℕ) → i < 64 → get_or read i blank ≡ entry_in b (8 + 44 * i)
  unfolding read
  each_read i l = get_d_tabulate 64 (λ i. entry_in b (8 + 44 * i)) blank i l

  long : length read ≡ 64
  unfolding read register_in
  long = length_read b

  keys_read : Keys read
  unfolding entry_in words_from
  keys_read = record { key = λ i l. ap (λ (e : Entry). length e.key) (each_read i (omega (arith, long))) ∙ length_tabulate 40 (λ k. get_or b (8 + 44 * i + 4 + k) 0) }

  entries_kept : entries_bytes read ≡ drop 8 b
  unfolding words_from
  entries_kept = ext_get_or 0 (entries_bytes read) (drop 8 b) (whole ∙ omega (arith, length-drop 8 b)) each
    where
      whole : length (entries_bytes read) ≡ 2816
      whole = length_entries_bytes read keys_read ∙ omega (arith, long)

      each : (k : ℕ) → k < length (entries_bytes read) → get_or (entries_bytes read) k 0 ≡ get_or (drop 8 b) k 0
      each k l =
          let i = k / 44 in
          let j = k % 44 in
          let l' : i < 64 = omega (arith, whole) in
          let m : j < 44 = omega arith in
          let q : k ≡ 44 * i + j = omega arith in
          let q' : 8 + 44 * i + j ≡ 8 + k = omega arith in
          ap (λ (x : ℕ). get_or (entries_bytes read) x 0) q
          ∙ entry_there read keys_read i j (omega (arith, long)) m
          ∙ ap (λ (e : Entry). get_or (entry_bytes e) j 0) (each_read i l')
          ∙ ap (λ (x : List ℕ). get_or x j 0) (entry_bytes_entry_in b (8 + 44 * i) small)
          ∙ get_d_tabulate 44 (λ x. get_or b (8 + 44 * i + x) 0) 0 j m
          ∙ ap (λ (x : ℕ). get_or b x 0) q'
          ∙ sym (get_or-drop 8 b k 0)

  pub register_bytes_register_in : register_bytes (register_in b) ≡ b
  unfolding register_bytes register_in read
  register_bytes_register_in = ap₂ ◌++◌ count_kept entries_kept ∙ take-append-drop 8 b

  -- with one more entry: the count's bytes changed, and the entry's put
  pub one_more : (e : Entry) → word_at b 0 < 64
      → register_bytes (extended (register_in b) e) ≡ put (8 + 44 * word_at b 0) 44 (entry_bytes e) (put 0 8 (tabulate 8 (byte (word_at b 0 + 1))) b)
  unfolding register_bytes register_in extended read
  one_more e l =
      let n = word_at b 0 in
      let t : List ℕ = tabulate 8 (byte (n + 1)) in
      let q : length t + 44 * n ≡ 8 + 44 * n = omega (arith, length_tabulate 8 (byte (n + 1))) in
      ap (λ (x : List ℕ). t ++ x) (entry_set read n e keys_read (omega (arith, long)) ∙ ap (put (44 * n) 44 (entry_bytes e)) entries_kept)
      ∙ put_behind t (drop 8 b) (entry_bytes e) (44 * n) 44
      ∙ ap (λ (k : ℕ). put k 44 (entry_bytes e) (t ++ drop 8 b)) q
