-- The lengths of the records refused, set 0 without the store, or the set that the key names. Here the number depends on the block map too.
-- Assumes nothing.
use mathlib.Core.Bool.{not}
use mathlib.Core.Path.{◌≡◌, sym, ap, ap₂, ◌∙◌}
use mathlib.Core.List.{List}
use Prim.Native.Nat.{ℕ}
use lib.ListN.{length}
use Rattle.labyrinth.specs.declared.WorkingKey.{WorkingKey}
use Rattle.labyrinth.specs.Cipher.{Parts, article}
use Rattle.labyrinth.specs.Keys.{U}
use Rattle.labyrinth.specs.Refusals.{under_key}
use Rattle.sets.specs.declared.Store.{Store}
use Rattle.sets.specs.Sets.{loaded, parts_in}
use Rattle.sets.proofs.Sets.{parts_zero}
use Rattle.modes.specs.KeyWrap.{authentic, unwrapped}
use Rattle.modes.specs.Refusals.{unwrap_refusal}
use Rattle.modes.proofs.Refusals.{unwrap_one}
use Rattle.records.specs.Records.{key_in, store_in}
use Rattle.records.specs.Lent.{lent_u}
use Rattle.records.proofs.Lent.{lent_refused, lent_named, lent_published}
use Rattle.wraps_c.proofs.labyrinth_key_unwrap.Goals as goal
use Rattle.wraps_c.proofs.labyrinth_key_unwrap.Goals.{Start}

-- the number by the parts, a key and n, the source and the destination's length
abbrev numberBy : List ℕ → ℕ → Parts → WorkingKey → ℕ → ℕ
numberBy src d p k n = unwrap_refusal n (length src) d (authentic (U p k.n k.words) src)

-- what the operation says of the key that it was handed, said of the key and the store that are lent
module _ (src : List ℕ) (d : ℕ) {k j : WorkingKey} {r : ℕ} where
  by-lent-key : (st : Store) → k.set ≡ 0 → k ≡ j → r ≡ numberBy src d article k k.n → r ≡ numberBy src d (parts_in st j.set) j k.n
  by-lent-key st z e h =
      h ∙ ap (λ (p : Parts). numberBy src d p k k.n) (sym (parts_zero st k.set z)) ∙ ap (λ (i : WorkingKey). numberBy src d (parts_in st i.set) i k.n) e

  by-lent-both : {s t : Store} → s ≡ t → k ≡ j → r ≡ under_key k.n (loaded s k.set) (numberBy src d (parts_in s k.set) k k.n)
      → r ≡ under_key k.n (loaded s k.set) (numberBy src d (parts_in t j.set) j k.n)
  by-lent-both {s = s} e f h = h ∙ ap₂ (λ (x : Store) (i : WorkingKey). under_key k.n (loaded s k.set) (numberBy src d (parts_in x i.set) i k.n)) e f

-- the number by n, with the store and the key that are lent
abbrev number : Start → ℕ → ℕ
number s = let a = s.args in let k = key_in a.working.now in numberBy a.src.now (length a.dst.now) (parts_in (store_in a.store.now) k.set) k

-- its result by the parts, n and the words of a key
abbrev result : Start → Parts → ℕ → List ℕ → List ℕ
result s = let a = s.args in λ p n ws. unwrapped (U p n ws) a.src.now

pub returns-then-not-fit : goal.returns-then-not-fit
unfolding lent_u
returns-then-not-fit c = let both = lent_refused c.args.store.now c.args.working.now (number (goal.at.returns-then-not-fit c).Start) (result (goal.at.returns-then-not-fit c).Start) c.args.dst.now c.fit.ensures (ap not c.if-not-fit.true) in record { number = both.0; key = both.1 }

pub returns-then-k-eq0 : goal.returns-then-k-eq0
unfolding lent_u
returns-then-k-eq0 c =
    let d = c.unwrap_published.ensures in
    let both = lent_published c.args.store.now c.args.working.now (number (goal.at.returns-then-k-eq0 c).Start) (result (goal.at.returns-then-k-eq0 c).Start) c.args.dst.now c.fit.ensures (ap not c.if-not-fit.false) c.key_of-k.ensures
    c.if-k-eq0.true (unwrap_one _ (length c.args.src.now) (length c.args.dst.now) _) (by-lent-key c.args.src.now (length c.args.dst.now) _ c.if-k-eq0.true c.key_of-k.ensures d.number, d.key) in record { number = both.0; key = both.1 }

pub returns : goal.returns
unfolding lent_u
returns c =
    let d = c.unwrap.ensures in
    let both = lent_named c.args.store.now c.args.working.now (number (goal.at.returns c).Start) (result (goal.at.returns c).Start) c.args.dst.now c.fit.ensures (ap not c.if-not-fit.false) c.key_of-k.ensures
    c.store_of.ensures (by-lent-both c.args.src.now (length c.args.dst.now) c.store_of.ensures c.key_of-k.ensures d.number, d.key) in record { number = both.0; key = both.1 }
