-- Keys that seal, open and tag alike, each by a store, write the same records and read them the same: so keys with the same used words, by one set, and one key by
-- two stores that have its set alike.
-- Assumes nothing.
use mathlib.Core.Path.{◌≡◌, refl, ap, ap₂, ◌∙◌}
use mathlib.Core.Bool.{Bool}
use mathlib.Core.List.{List, []}
use Prim.Native.Nat.{ℕ}
use lib.Dec.{eqb}
use Rattle.forms.specs.Refusals.{unless}
use Rattle.labyrinth.specs.declared.WorkingKey.{WorkingKey}
use Rattle.labyrinth.specs.Cipher.{Parts}
use Rattle.labyrinth.specs.Keys.{E, U}
use Rattle.labyrinth.specs.Refusals.{under_key}
use Rattle.labyrinth.proofs.Agree.{SameUsed}
use Rattle.modes.specs.Cbc.{cbc_seal, cbc_open}
use Rattle.modes.specs.Cmac.{tag}
use Rattle.modes.proofs.Used.{seal_used, open_used, tag_used}
use Rattle.sets.specs.declared.Store.{Store}
use Rattle.sets.specs.Sets.{set_in, parts_in, loaded}
use Rattle.sets.proofs.Sets.{loaded_alike, parts_alike}
use Rattle.pages.specs.Pages.{front, layout, parts, sealed_page, with_tag, tagged, body}
use Rattle.keyed_pages.specs.Keyed.{seal_under, open_under, tag_under, written, opened}
use Rattle.keyed_pages.specs.Refusals.{for_key, for_keys, write_lengths, write_refusal, read_refusal}

-- a key by a store, and another by another, that do the same
pub record SameMaps (s t : Store) (k j : WorkingKey) : Type 0 where
  pub size : k.n ≡ j.n
  pub is : loaded s k.set ≡ loaded t j.set
  pub seals : (start text : List ℕ) → seal_under s k start text ≡ seal_under t j start text
  pub opens : (start sealed : List ℕ) → open_under s k start sealed ≡ open_under t j start sealed
  pub tags : (bytes : List ℕ) → tag_under s k bytes ≡ tag_under t j bytes

-- the used words are the same, and the set that is named
pub used_maps : (s : Store) (k j : WorkingKey) → k.n ≡ j.n → SameUsed k.n k.words j.words → k.set ≡ j.set → SameMaps s s k j
unfolding seal_under open_under tag_under
used_maps s k j e h i =
    let p = parts_in s k.set in
    record {
      size = e;
      is = ap (loaded s) i;
      seals = λ start text. seal_used p k.n k.words j.words h 16 start text
          ∙ ap₂ (λ (x : ℕ) (n : ℕ). cbc_seal (E (parts_in s x) n j.words) 16 start text) i e;
      opens = λ start sealed. open_used p k.n k.words j.words h 16 start sealed
          ∙ ap₂ (λ (x : ℕ) (n : ℕ). cbc_open (U (parts_in s x) n j.words) 16 start sealed) i e;
      tags = λ bytes. tag_used p k.n k.words j.words h 16 bytes ∙ ap₂ (λ (x : ℕ) (n : ℕ). tag (E (parts_in s x) n j.words) 16 bytes) i e;
    }

-- the set that is named is the same in two stores
pub set_maps : (s t : Store) (k : WorkingKey) → set_in s k.set ≡ set_in t k.set → SameMaps s t k k
unfolding seal_under open_under tag_under
set_maps s t k e =
    let p = parts_alike s t k.set e in
    record {
      size = refl;
      is = loaded_alike s t k.set e;
      seals = λ start text. ap (λ (p : Parts). cbc_seal (E p k.n k.words) 16 start text) p;
      opens = λ start sealed. ap (λ (p : Parts). cbc_open (U p k.n k.words) 16 start sealed) p;
      tags = λ bytes. ap (λ (p : Parts). tag (E p k.n k.words) 16 bytes) p;
    }

module _ (s t : Store) (k j m o : WorkingKey) (h : SameMaps s t k j) (g : SameMaps s t m o) where
  keys_like : (further : ℕ) → for_keys s k m further ≡ for_keys t j o further
  unfolding for_keys for_key
  keys_like further =
      ap₂ (λ (n : ℕ) (b : Bool). under_key n b (unless (eqb n 1) 12 (for_key s m further))) h.size h.is
      ∙ ap₂ (λ (n : ℕ) (b : Bool). under_key j.n (loaded t j.set) (unless (eqb j.n 1) 12 (under_key n b (unless (eqb n 1) 12 further)))) g.size g.is

  pub write_number_like : (title start text destination : ℕ) → write_refusal s k m title start text destination ≡ write_refusal t j o title start text destination
  unfolding write_refusal
  write_number_like title start text destination = keys_like (write_lengths title start text destination)

  pub read_number_like : (r : List ℕ) (destination : ℕ) → read_refusal s k m r destination ≡ read_refusal t j o r destination
  unfolding read_refusal tagged
  read_number_like r destination = rw (g.tags (front (parts r))) (keys_like _)

  pub written_like : (number day : ℕ) (title start text : List ℕ) → written s k m number day title start text ≡ written t j o number day title start text
  unfolding written sealed_page with_tag
  written_like number day title start text =
      ap (λ (x : List ℕ). layout (with_tag (tag_under s m) (record { number = number; day = day; title = title; start = start; sealed = x; tag = [] }))) (h.seals start text)
      ∙ ap (λ (x : List ℕ). layout (record { number = number; day = day; title = title; start = start; sealed = seal_under t j start text; tag = x })) (g.tags _)

  pub opened_like : (r : List ℕ) → opened s k r ≡ opened t j r
  unfolding opened body
  opened_like r = h.opens (parts r).start (parts r).sealed
