-- The lengths, the number of loading, or the store written back.
-- Assumes nothing.
use mathlib.Core.Path.{◌≡◌, refl, ap₂, ◌∙◌}
use mathlib.Core.List.{List}
use Prim.Native.Nat.{ℕ}
use lib.ListN.{length}
use Rattle.sets.specs.declared.Store.{Store}
use Rattle.sets.specs.Sets.{load}
use Rattle.records.specs.Records.{store_in}
use Rattle.forms.proofs.Whole.{read_whole}
use Rattle.records.proofs.Numbers.{row_first, row_refused, row_passed}
use Rattle.stores_c.proofs.Changes.{load_number_of, change_refused, change_made}
use Rattle.stores_c.proofs.labyrinth_store_load.Goals as goal
use Rattle.stores_c.proofs.labyrinth_store_load.Goals.{After-load-changed}

pub returns-then-store-ne1072 : goal.returns-then-store-ne1072
returns-then-store-ne1072 c =
    let a = c.args in
    record { number = row_first (length a.store.now) (length a.row.now) _ c.if-store-ne1072.true; store = refl }

pub returns-then-other : goal.returns-then-other
returns-then-other c =
    let a = c.args in
    record { number = row_refused (length a.store.now) (length a.row.now) _ c.if-store-ne1072.false c.if-other.true; store = refl }

-- what loading answered, of the store that was read
loaded : (c : After-load-changed) → let a = c.args in
    c.load-changed.result ≡ load (store_in a.store.now) a.publisher a.set a.substitution.now a.row.now
loaded c =
    let a = c.args in
    c.load-changed.ensures
    ∙ ap₂ (λ (s : Store) (g : List ℕ). load s a.publisher a.set a.substitution.now g) c.store_of.ensures
    (c.row_at.ensures ∙ read_whole a.row.now 8 c.if-other.false)

pub returns-then-changed-ne0 : goal.returns-then-changed-ne0
returns-then-changed-ne0 c =
    let a = c.args in
    let both = change_refused a.store.now (row_passed (length a.store.now) (length a.row.now) _ c.if-store-ne1072.false c.if-other.false) (loaded (goal.at.returns-then-changed-ne0 c).After-load-changed)
    (load_number_of (store_in a.store.now) a.publisher a.set a.substitution.now a.row.now) c.if-changed-ne0.true in record { number = both.0; store = both.1 }

pub returns : goal.returns
returns c =
    let a = c.args in
    let both = change_made a.store.now (row_passed (length a.store.now) (length a.row.now) _ c.if-store-ne1072.false c.if-other.false) (loaded (goal.at.returns c).After-load-changed)
    (load_number_of (store_in a.store.now) a.publisher a.set a.substitution.now a.row.now) c.if-store-ne1072.false c.if-changed-ne0.false c.put_store.ensures in record { number = both.0; store = both.1 }
