-- The numbers of lent records, in plain terms and as the code makes the checks.
-- Assumes nothing.
use mathlib.Core.Path.{◌≡◌, sym, ◌∙◌}
use mathlib.Core.Bool.{Bool, true, false, not, ◌&&◌}
use mathlib.Core.List.{List}
use Prim.Native.Nat.{ℕ}
use borrow.Author.Tests.{eq-eqb, ne_eqb, eqb-true, not-true, not-false}
use lib.Dec.{eqb}
use lib.ListN.{length}
use Rattle.forms.specs.Refusals.{Unless}
use Rattle.forms.proofs.Booleans.{eqb_iff, and_iff, and_both}
use Rattle.forms.proofs.Refusals.{unless_plain}
use Rattle.records.specs.Numbers.{store_number, records_number, row_number}

-- ---- in plain terms: 4 unless each has its length, then the further checks

pub store_plain : {more : Type 0} (store further : ℕ) {r : ℕ} → r ≡ store_number store further → (r ≡ further → more) → Unless (store ≡ 1072) (r ≡ 4) more
unfolding store_number
store_plain store further e f = unless_plain (eqb store 1072) 4 further e (eqb_iff store 1072) f

pub records_plain : {more : Type 0} (store working further : ℕ) {r : ℕ} → r ≡ records_number store working further → (r ≡ further → more)
    → Unless ((store ≡ 1072) × (working ≡ 272)) (r ≡ 4) more
unfolding records_number
records_plain store working further e f =
    unless_plain (eqb store 1072 && eqb working 272) 4 further e (and_iff (eqb store 1072) (eqb working 272) (eqb_iff store 1072) (eqb_iff working 272)) f

pub row_plain : {more : Type 0} (store row further : ℕ) {r : ℕ} → r ≡ row_number store row further → (r ≡ further → more) → Unless ((store ≡ 1072) × (row ≡ 8)) (r ≡ 4) more
unfolding row_number
row_plain store row further e f =
    unless_plain (eqb store 1072 && eqb row 8) 4 further e (and_iff (eqb store 1072) (eqb row 8) (eqb_iff store 1072) (eqb_iff row 8)) f

-- ---- as the code makes the checks

pub store_refused : (store further : ℕ) → (store ≡ 1072 → ⊥) → 4 ≡ store_number store further
unfolding store_number
store_refused store further h = rw (ne_eqb store 1072 h)

pub store_passed : (store further : ℕ) → store ≡ 1072 → further ≡ store_number store further
unfolding store_number
store_passed store further h = rw (eq-eqb store 1072 h)

pub row_first : (store row further : ℕ) → (store ≡ 1072 → ⊥) → 4 ≡ row_number store row further
unfolding row_number
row_first store row further h = rw (ne_eqb store 1072 h)

pub row_refused : (store row further : ℕ) → store ≡ 1072 → (row ≡ 8 → ⊥) → 4 ≡ row_number store row further
unfolding row_number
row_refused store row further h g = rw (eq-eqb store 1072 h, ne_eqb row 8 g)

pub row_passed : (store row further : ℕ) → store ≡ 1072 → row ≡ 8 → further ≡ row_number store row further
unfolding row_number
row_passed store row further h g = rw (eq-eqb store 1072 h, eq-eqb row 8 g)

-- a store and a working key
module _ (store working : List ℕ) {t : Bool} (e : t ≡ (eqb (length store) 1072 && eqb (length working) 272)) where
  pub records_refused : (further : ℕ) → not t ≡ true → 4 ≡ records_number (length store) (length working) further
  unfolding records_number
  records_refused further h = rw (sym e, not-true t h)

  pub records_passed : (further : ℕ) → not t ≡ false → further ≡ records_number (length store) (length working) further
  unfolding records_number
  records_passed further h = rw (sym e, not-false t h)

  pub records_long : not t ≡ false → (length store ≡ 1072) × (length working ≡ 272)
  records_long h = let b = and_both (eqb (length store) 1072) (eqb (length working) 272) (sym e ∙ not-false t h) in (eqb-true (length store) 1072 b.0, eqb-true (length working) 272 b.1)
