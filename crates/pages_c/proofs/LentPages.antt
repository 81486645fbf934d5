-- What the functions for page records come to: of lent records the lengths refused, or the operation's answer; the catalogue's answer part by part; and
-- that the title stands where it is told.
-- Assumes nothing.
use mathlib.Core.Path.{◌≡◌, refl, sym, ap, ap₂, ◌∙◌}
use mathlib.Core.Bool.{Bool, true, false, not, ◌&&◌}
use mathlib.Core.List.{List}
use Prim.Native.Nat.{ℕ}
use lib.Dec.{eqb}
use lib.ListN.{length, take, drop}
use Rattle.forms.specs.Refusals.{outcome, Unless}
use Rattle.labyrinth.specs.declared.WorkingKey.{WorkingKey}
use Rattle.sets.specs.declared.Store.{Store}
use Rattle.records.specs.Records.{key_in, store_in}
use Rattle.records.proofs.Numbers.{records_plain, records_refused, records_passed}
use Rattle.catalogue.specs.declared.Entry.{Entry}
use Rattle.catalogue.specs.Catalogue.{entry, title_part}
use Rattle.catalogue.proofs.Catalogues.{title_there}
use Rattle.pages_c.specs.LentPages.{lent_keys_number, title_at}

-- ---- a store and two working keys

-- 4 unless the store and the sealing key have their lengths, then 4 unless the tag key has it, then the further checks
pub keys_plain : {more : Type 0} (store sealing tagging : List ℕ) (further : ℕ) {r : ℕ} → r ≡ lent_keys_number store sealing tagging further → (r ≡ further → more)
    → Unless ((length store ≡ 1072) × (length sealing ≡ 272)) (r ≡ 4) (Unless ((length store ≡ 1072) × (length tagging ≡ 272)) (r ≡ 4) more)
unfolding lent_keys_number
keys_plain store sealing tagging further e f =
    records_plain (length store) (length sealing) _ e (λ e. records_plain (length store) (length tagging) further e f)

-- what is made of a store and two keys is made alike of those that are lent
by_lent : {A : Type 0} (f : Store → WorkingKey → WorkingKey → A) {s t : Store} {k l j i : WorkingKey} → s ≡ t → k ≡ l → j ≡ i → f s k j ≡ f t l i
by_lent f {t = t} {l = l} {j = j} x y z = ap₂ (λ (s : Store) (k : WorkingKey). f s k j) x y ∙ ap (λ (j : WorkingKey). f t l j) z

-- an operation's number and its result, by the store and the keys
module _ (store sealing tagging : List ℕ) (own : Store → WorkingKey → WorkingKey → ℕ) (result : Store → WorkingKey → WorkingKey → List ℕ) (before : List ℕ) where
  -- what is promised
  abbrev pub Done : ℕ → List ℕ → Type 0
  Done r after =
      (r ≡ lent_keys_number store sealing tagging (own (store_in store) (key_in sealing) (key_in tagging)))
      × (after ≡ outcome r (result (store_in store) (key_in sealing) (key_in tagging)) before)

  module _ {a : Bool} (e : a ≡ (eqb (length store) 1072 && eqb (length sealing) 272)) where
    pub sealing_refused : not a ≡ true → Done 4 before
    unfolding lent_keys_number
    sealing_refused h = (records_refused store sealing e _ h, refl)

    module _ (p : not a ≡ false) {b : Bool} (f : b ≡ (eqb (length store) 1072 && eqb (length tagging) 272)) where
      pub tagging_refused : not b ≡ true → Done 4 before
      unfolding lent_keys_number
      tagging_refused h = (records_refused store tagging f _ h ∙ records_passed store sealing e _ p, refl)

      pub lent_done : not b ≡ false → {s : Store} {k j : WorkingKey} {r : ℕ} {after : List ℕ} → s ≡ store_in store → k ≡ key_in sealing → j ≡ key_in tagging
          → (r ≡ own s k j) × (after ≡ outcome r (result s k j) before) → Done r after
      unfolding lent_keys_number
      lent_done q {r = r} x y z d = (
        d.0 ∙ by_lent own x y z ∙ records_passed store tagging f _ q ∙ records_passed store sealing e _ p,
        d.1 ∙ by_lent (λ (s : Store) (k j : WorkingKey). outcome r (result s k j) before) x y z,
      )

-- ---- the catalogue

pub catalogued : (r : List ℕ) {e : Entry} {p : ℕ} → e ≡ entry r → p ≡ title_at e.number
    → (e.number ≡ (entry r).number) × ((e.page ≡ (entry r).page) × ((e.day ≡ (entry r).day) × ((e.blocks ≡ (entry r).blocks) × (p ≡ title_at e.number))))
catalogued r h p =
    (ap (λ (x : Entry). x.number) h, (ap (λ (x : Entry). x.page) h, (ap (λ (x : Entry). x.day) h, (ap (λ (x : Entry). x.blocks) h, p))))

-- the title is the 32 bytes from that place on
pub title_place : (r : List ℕ) → (entry r).number ≡ 0 → title_part r ≡ take 32 (drop (title_at (entry r).number) r)
unfolding title_at
title_place r h = sym (title_there r h) ∙ ap (λ (n : ℕ). take 32 (drop (title_at n) r)) (sym h)
