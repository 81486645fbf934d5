-- The length, the number of taking, or the store written back.
-- Assumes nothing.
use mathlib.Core.Path.{◌≡◌, refl, ap, ◌∙◌}
use lib.ListN.{length}
use Rattle.sets.specs.declared.Store.{Store}
use Rattle.sets.specs.Sets.{take}
use Rattle.records.specs.Records.{store_in}
use Rattle.records.proofs.Numbers.{store_refused, store_passed}
use Rattle.stores_c.proofs.Changes.{take_number_of, change_refused, change_made}
use Rattle.stores_c.proofs.labyrinth_store_take.Goals as goal
use Rattle.stores_c.proofs.labyrinth_store_take.Goals.{After-take-taken}

pub returns-then-store-ne1072 : goal.returns-then-store-ne1072
returns-then-store-ne1072 c = record { number = store_refused (length c.args.store.now) _ c.if-store-ne1072.true; store = refl }

-- what taking answered, of the store that was read
taken : (c : After-take-taken) → let a = c.args in c.take-taken.result ≡ take (store_in a.store.now) a.publisher a.set
taken c =
    let a = c.args in
    c.take-taken.ensures ∙ ap (λ (s : Store). take s a.publisher a.set) c.store_of.ensures

pub returns-then-refused : goal.returns-then-refused
returns-then-refused c =
    let a = c.args in
    let both = change_refused a.store.now (store_passed (length a.store.now) _ c.if-store-ne1072.false) (taken (goal.at.returns-then-refused c).After-take-taken) (take_number_of (store_in a.store.now) a.publisher a.set) c.if-refused.true in record { number = both.0; store = both.1 }

pub returns : goal.returns
returns c =
    let a = c.args in
    let both = change_made a.store.now (store_passed (length a.store.now) _ c.if-store-ne1072.false) (taken (goal.at.returns c).After-take-taken) (take_number_of (store_in a.store.now) a.publisher a.set)
    c.if-store-ne1072.false c.if-refused.false c.put_store.ensures in record { number = both.0; store = both.1 }
