-- The numbers in plain terms.
-- Assumes nothing.
use mathlib.Core.Path.{◌≡◌}
use mathlib.Core.List.{List}
use Prim.Native.Nat.{ℕ, ◌<◌}
use lib.ListN.{length}
use Rattle.forms.specs.Refusals.{Unless}
use Rattle.field.specs.Mixing.{row_sum}
use Rattle.field.specs.Substitution.{Different}
use Rattle.labyrinth.specs.Refusals.{Legal, LegalLength, expand_refusal, under_length}
use Rattle.labyrinth.proofs.Refusals.{under_length_number}
use Rattle.sets.specs.Sets.{Loaded, Held, loaded, load_refusal, take_refusal}
use Rattle.sets.proofs.Sets.{loaded_iff, load_number, take_number}
use Rattle.records.specs.Records.{store_in}
use Rattle.records.specs.Numbers.{store_number, records_number, row_number}
use Rattle.records.proofs.Numbers.{store_plain, records_plain, row_plain}

-- loading: 4 unless the store is 1072 bytes and the row 8, then 15, 14, 13 and 16
pub load_plain : (store : List ℕ) (publisher i : ℕ) (s g : List ℕ) {r : ℕ} → r ≡ row_number (length store) (length g) (load_refusal (store_in store) publisher i s g)
    → Unless ((length store ≡ 1072) × (length g ≡ 8)) (r ≡ 4)
    (Unless ((publisher < 2) × (i < 4)) (r ≡ 15) (Unless (Different s) (r ≡ 14) (Unless (row_sum g ≡ 0 → ⊥) (r ≡ 13) (Unless (Held (store_in store) i → ⊥) (r ≡ 16) (r ≡ 0)))))
load_plain store publisher i s g e = row_plain (length store) (length g) _ e (λ e. load_number (store_in store) publisher i s g e)

-- taking: 4, then 15
pub take_plain : (store : List ℕ) (publisher i : ℕ) {r : ℕ} → r ≡ store_number (length store) (take_refusal (store_in store) publisher i)
    → Unless (length store ≡ 1072) (r ≡ 4) (Unless ((publisher < 2) × (i < 4) × Loaded (store_in store) i) (r ≡ 15) (r ≡ 0))
take_plain store publisher i e = store_plain (length store) _ e (λ e. take_number (store_in store) publisher i e)

-- expanding: 4, then 1, 2, 15, and expansion's own
pub expand_plain : (store working key : List ℕ) (n l i : ℕ) {r : ℕ}
    → r ≡ records_number (length store) (length working) (under_length n l (loaded (store_in store) i) (expand_refusal n l (length key)))
    → Unless ((length store ≡ 1072) × (length working ≡ 272)) (r ≡ 4)
    (Unless (Legal n) (r ≡ 1) (Unless (LegalLength l) (r ≡ 2) (Unless (Loaded (store_in store) i) (r ≡ 15) (r ≡ expand_refusal n l (length key)))))
expand_plain store working key n l i e =
    records_plain (length store) (length working) _ e (λ e. under_length_number n l (loaded (store_in store) i) _ e (loaded_iff (store_in store) i) (λ e. e))
