-- What a function that takes a store and a working key comes to, whatever its operation: its number in plain terms; and the length refused, the key's
-- set used, or set 0 used without the store.
-- Assumes nothing.
use mathlib.Core.Path.{◌≡◌, refl, ap₂, ◌∙◌}
use mathlib.Core.Bool.{Bool, true, false, not, ◌&&◌}
use mathlib.Core.List.{List}
use Prim.Native.Nat.{ℕ}
use lib.Dec.{eqb}
use lib.ListN.{length}
use Rattle.forms.specs.Refusals.{Unless, outcome}
use Rattle.labyrinth.specs.declared.WorkingKey.{WorkingKey}
use Rattle.labyrinth.specs.Cipher.{Parts, article}
use Rattle.labyrinth.specs.Refusals.{legal, Legal, under_key}
use Rattle.labyrinth.proofs.Refusals.{under_number}
use Rattle.sets.specs.declared.Store.{Store}
use Rattle.sets.specs.Sets.{loaded, Loaded, parts_in}
use Rattle.sets.proofs.Sets.{loaded_iff, published_answer}
use Rattle.records.specs.Records.{key_in, store_in}
use Rattle.records.specs.Lent.{lent_number}
use Rattle.records.proofs.Numbers.{records_plain, records_refused, records_passed}

-- 4 unless both records have their lengths, then 1 unless n is legal, then 15 unless the key's set is loaded, then the operation's own
pub lent_plain : {more : Type 0} (store working : List ℕ) (own : ℕ → ℕ) {r : ℕ} → r ≡ lent_number store working own → (r ≡ own (key_in working).n → more)
    → Unless ((length store ≡ 1072) × (length working ≡ 272)) (r ≡ 4)
    (Unless (Legal (key_in working).n) (r ≡ 1) (Unless (Loaded (store_in store) (key_in working).set) (r ≡ 15) more))
unfolding lent_number
lent_plain store working own e f =
    records_plain (length store) (length working) _ e (λ e.
    under_number (key_in working).n (loaded (store_in store) (key_in working).set) (own (key_in working).n) e (loaded_iff (store_in store) (key_in working).set) f)

module _ (store working : List ℕ) (own : ℕ → ℕ) (result : Parts → ℕ → List ℕ → List ℕ) (before : List ℕ) where
  -- what is promised
  abbrev pub Done : ℕ → List ℕ → Type 0
  Done r after =
      (r ≡ lent_number store working own) × (after ≡ outcome r (result (parts_in (store_in store) (key_in working).set) (key_in working).n (key_in working).words) before)

  module _ {t : Bool} (e : t ≡ (eqb (length store) 1072 && eqb (length working) 272)) where
    pub lent_refused : not t ≡ true → Done 4 before
    unfolding lent_number
    lent_refused h = (records_refused store working e _ h, refl)

    module _ (h : not t ≡ false) {k : WorkingKey} (p : k ≡ key_in working) {r : ℕ} {after : List ℕ} where
      pub lent_named : {s : Store} → s ≡ store_in store
          → (r ≡ under_key k.n (loaded s k.set) (own k.n)) × (after ≡ outcome r (result (parts_in s k.set) k.n k.words) before) → Done r after
      unfolding lent_number
      lent_named q d = (
        d.0 ∙ ap₂ (λ (s : Store) (k : WorkingKey). under_key k.n (loaded s k.set) (own k.n)) q p ∙ records_passed store working e _ h,
        d.1 ∙ ap₂ (λ (s : Store) (k : WorkingKey). outcome r (result (parts_in s k.set) k.n k.words) before) q p,
      )

      pub lent_published : k.set ≡ 0 → (legal k.n ≡ false → own k.n ≡ 1)
          → (r ≡ own k.n) × (after ≡ outcome r (result article k.n k.words) before) → Done r after
      lent_published z one d =
          lent_named refl (published_answer (store_in store) k.set k.n (λ (p : Parts). result p k.n k.words) before z one d.0 d.1)
