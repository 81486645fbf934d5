-- A record that is written under two keys is read back under them, by any store that has their sets alike.
-- Assumes nothing.
use mathlib.Core.Path.{◌≡◌, sym, ap, ◌∙◌}
use mathlib.Core.Bool.{true}
use mathlib.Core.Logic.{inl}
use mathlib.Core.List.{List}
use Prim.Native.Nat.{ℕ, ◌+◌, ◌*◌, ◌/◌, ◌%◌, ◌^◌, ◌<◌}
use native.Mathlib.Omega.{arith}
use borrow.Author.Tests.{eq-eqb}
use lib.Dec.{eqb}
use lib.ListN.{length}
use Rattle.forms.specs.Refusals.{unless}
use Rattle.forms.proofs.Bytes.{Bytes, Small}
use Rattle.labyrinth.specs.declared.WorkingKey.{WorkingKey}
use Rattle.labyrinth.specs.Cipher.{Parts}
use Rattle.labyrinth.specs.Keys.{E, U}
use Rattle.labyrinth.specs.Refusals.{under_key}
use Rattle.labyrinth.proofs.Refusals.{legal_iff}
use Rattle.modes.specs.Cbc.{cbc_open}
use Rattle.modes.specs.Cmac.{tag}
use Rattle.modes.proofs.Maps.{keeps_one, undone_one}
use Rattle.modes.proofs.Cbc.{length_seal, open_seal}
use Rattle.modes.proofs.Cmac.{length_tag}
use Rattle.sets.specs.declared.Store.{Store}
use Rattle.sets.specs.Sets.{parts_in, loaded}
use Rattle.sets.proofs.Sets.{loaded_sound}
use Rattle.pages.specs.Pages.{Page, parts, blocks, is_record, sealed_page, tagged}
use Rattle.pages.proofs.Layouts.{record_length_lem, Handed, written_read, written_tagged, written_body}
use Rattle.keyed_pages.specs.Keyed.{seal_under, open_under, tag_under, written, opened}
use Rattle.keyed_pages.specs.Refusals.{for_key, for_keys, read_refusal}
use Rattle.keyed_pages.proofs.Refusals.{Keys_taken, Write_taken}

-- ---- the two maps under keys of n = 1

module _ (store : Store) (k : WorkingKey) (one : k.n ≡ 1) where
  pub seal_under_length : (start text : List ℕ) → length text % 16 ≡ 0 → length (seal_under store k start text) ≡ length text
  unfolding seal_under
  seal_under_length start text w =
      let p = parts_in store k.set in
      length_seal (E p k.n k.words) 16 (keeps_one p k.n k.words one) start text w

  pub tag_under_length : (bytes : List ℕ) → length (tag_under store k bytes) ≡ 16
  unfolding tag_under
  tag_under_length bytes =
      let p = parts_in store k.set in
      length_tag (E p k.n k.words) (keeps_one p k.n k.words one) 16 bytes (omega arith)

-- a store that has the set alike makes the same tags, and opens what was sealed
module _ (s t : Store) (k : WorkingKey) (same : parts_in s k.set ≡ parts_in t k.set) where
  pub tag_under_same : tag_under s k ≡ tag_under t k
  unfolding tag_under
  tag_under_same = ap (λ (p : Parts). tag (E p k.n k.words) 16) same

  pub open_under_seal : k.n ≡ 1 → loaded s k.set ≡ true → Small k.words → (start text : List ℕ) → length start ≡ 16 → Bytes start → length text % 16 ≡ 0 → Bytes text
      → open_under t k start (seal_under s k start text) ≡ text
  unfolding seal_under open_under
  open_under_seal one is w start text ls hs lt ht =
      let p = parts_in s k.set in
      ap (λ (q : Parts). cbc_open (U q k.n k.words) 16 start (seal_under s k start text)) (sym same)
      ∙ open_seal (E p k.n k.words) (U p k.n k.words) 16 (keeps_one p k.n k.words one)
      (undone_one p k.n k.words one (loaded_sound s k.set is) w) start text ls hs lt ht

-- ---- keys that pass

pub key_held : (store : Store) (k : WorkingKey) (further : ℕ) → k.n ≡ 1 → loaded store k.set ≡ true → for_key store k further ≡ further
unfolding for_key under_key
key_held store k further one is = rw ((legal_iff k.n).1 (inl one), is, eq-eqb k.n 1 one)

pub keys_held : (store : Store) (sealing tagging : WorkingKey) (further : ℕ) → Keys_taken store sealing tagging → for_keys store sealing tagging further ≡ further
unfolding for_keys
keys_held store sealing tagging further k =
    key_held store sealing (for_key store tagging further) k.sealing_one k.sealing_loaded ∙ key_held store tagging further k.tagging_one k.tagging_loaded

-- ---- a record that is written

module _ (s : Store) (sealing tagging : WorkingKey) (number day : ℕ) (title start text : List ℕ) {destination : ℕ}
    (taken : Write_taken s sealing tagging (length title) (length start) (length text) destination) (small : (number < 2 ^ 32) × (day < 2 ^ 32)) where
  abbrev page : Page
  page = sealed_page (seal_under s sealing) (tag_under s tagging) number day title start text

  abbrev r : List ℕ
  r = written s sealing tagging number day title start text

  pub handed : Handed (seal_under s sealing) (tag_under s tagging) number day title start text
  handed =
      record {
        small = small;
        titled = taken.titled;
        started = taken.started;
        whole = taken.whole;
        most = omega (arith, taken.most);
        sealed = seal_under_length s sealing taken.keys.sealing_one start text taken.whole;
        tags = tag_under_length s tagging taken.keys.tagging_one;
      }

  pub written_is_record : is_record r ≡ true
  unfolding written
  written_is_record = (written_read (seal_under s sealing) (open_under s sealing) (tag_under s tagging) number day title start text handed).0

  pub written_parts : parts r ≡ page
  unfolding written
  written_parts = (written_read (seal_under s sealing) (open_under s sealing) (tag_under s tagging) number day title start text handed).1

  pub written_blocks : blocks r ≡ length text / 16
  unfolding written
  written_blocks = (written_read (seal_under s sealing) (open_under s sealing) (tag_under s tagging) number day title start text handed).2

  pub written_length : length r ≡ 77 + 17 * (length text / 16)
  written_length = record_length_lem r written_is_record ∙ ap (λ (k : ℕ). 77 + 17 * k) written_blocks

  -- read with any store that has the sets alike: its tag is right, and its body is the one handed in
  module _ (t : Store) where
    pub written_right : parts_in s tagging.set ≡ parts_in t tagging.set → tagged (tag_under t tagging) (parts r) ≡ true
    unfolding written
    written_right e =
        ap (λ (f : List ℕ → List ℕ). tagged f (parts r)) (sym (tag_under_same s t tagging e))
        ∙ written_tagged (seal_under s sealing) (open_under s sealing) (tag_under s tagging) number day title start text handed

    pub written_opened : parts_in s sealing.set ≡ parts_in t sealing.set → Small sealing.words → Bytes start → Bytes text → opened t sealing r ≡ text
    unfolding written opened
    written_opened e w hs ht =
        written_body (seal_under s sealing) (open_under t sealing) (tag_under s tagging) number day title start text handed
        (open_under_seal s t sealing e taken.keys.sealing_one taken.keys.sealing_loaded w start text taken.started hs taken.whole ht)

    -- so the reader turns it away only for the length of the destination
    pub written_number : Keys_taken t sealing tagging → parts_in s tagging.set ≡ parts_in t tagging.set → (room : ℕ)
        → read_refusal t sealing tagging r room ≡ unless (eqb room (length text)) 5 0
    unfolding read_refusal
    written_number k e room =
        let l : 16 * (length text / 16) ≡ length text = omega (arith, taken.whole) in
        keys_held t sealing tagging _ k ∙ rw (written_is_record, written_right e, written_blocks, l)
