-- A store that is read, changed, and written back where the change was not refused, whatever the change; and a key that is expanded.
-- Assumes nothing.
use mathlib.Core.Path.{◌≡◌, refl, sym, ap, ◌∙◌}
use mathlib.Core.List.{List}
use Prim.Native.Nat.{ℕ, zero, suc}
use lib.Dec.{eqb}
use lib.ListN.{length}
use Rattle.forms.specs.Lists.{when}
use Rattle.forms.specs.Refusals.{outcome}
use Rattle.forms.proofs.Refusals.{refused_keeps}
use Rattle.sets.specs.declared.Store.{Store}
use Rattle.sets.specs.declared.Changed.{Changed}
use Rattle.sets.specs.Sets.{changed, load, load_refusal, take, take_refusal}
use Rattle.labyrinth.specs.declared.Expanded.{Expanded}
use Rattle.labyrinth.specs.Refusals.{expansion}
use Rattle.labyrinth.proofs.Expansion.{expansion_number}
use Rattle.records.specs.Records.{key_bytes, store_bytes}
use Rattle.forms.proofs.Whole.{as_written}

number_of : (r : ℕ) (new old : Store) → (changed r new old).number ≡ r
number_of zero new old = refl
number_of (suc r) new old = refl

pub load_number_of : (store : Store) (publisher i : ℕ) (s g : List ℕ) → (load store publisher i s g).number ≡ load_refusal store publisher i s g
unfolding load
load_number_of store publisher i s g = number_of (load_refusal store publisher i s g) _ store

pub take_number_of : (store : Store) (publisher i : ℕ) → (take store publisher i).number ≡ take_refusal store publisher i
unfolding take
take_number_of store publisher i = number_of (take_refusal store publisher i) _ store

-- the checks of lengths passed, and the change x was made
module _ (before : List ℕ) {number own : ℕ} (passed : own ≡ number) {x y : Changed} (made : x ≡ y) (told : y.number ≡ own) where
  -- what is promised
  abbrev pub Stored : ℕ → List ℕ → Type 0
  Stored r after = (r ≡ number) × (after ≡ outcome r (store_bytes y.store) before)

  given : x.number ≡ number
  given = ap (λ (c : Changed). c.number) made ∙ told ∙ passed

  pub change_refused : (x.number ≡ 0 → ⊥) → Stored x.number before
  change_refused h = (given, refused_keeps x.number _ before h)

  pub change_made : length before ≡ 1072 → x.number ≡ 0 → {after : List ℕ} → after ≡ when (eqb (length before) 1072) (store_bytes x.store) before → Stored 0 after
  change_made h z e = (sym z ∙ given, as_written before _ 1072 h e ∙ ap (λ (c : Changed). store_bytes c.store) made)

-- ---- a key expanded, and written where it was not refused

module _ (before : List ℕ) (SM : ℕ → ℕ) (set n l : ℕ) (key : List ℕ) {number own : ℕ} (passed : own ≡ number) {x : Expanded} (made : x ≡ expansion SM set n l key own) where
  -- what is promised
  abbrev pub Laid : ℕ → List ℕ → Type 0
  Laid r after = (r ≡ number) × (after ≡ outcome r (key_bytes (expansion SM set n l key 0).key) before)

  told_own : x.number ≡ own
  told_own = ap (λ (y : Expanded). y.number) made ∙ expansion_number SM set n l key own

  pub expand_refused : (x.number ≡ 0 → ⊥) → Laid x.number before
  expand_refused h = (told_own ∙ passed, refused_keeps x.number _ before h)

  pub expand_made : length before ≡ 272 → x.number ≡ 0 → {after : List ℕ} → after ≡ when (eqb (length before) 272) (key_bytes x.key) before → Laid 0 after
  expand_made h z e = (
    sym z ∙ told_own ∙ passed,
    as_written before _ 272 h e ∙ ap (λ (y : Expanded). key_bytes y.key) (made ∙ ap (expansion SM set n l key) (sym told_own ∙ z)),
  )
