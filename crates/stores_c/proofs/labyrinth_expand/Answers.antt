-- The lengths of the records, the number of expansion, or the working key written.
-- Assumes nothing.
use mathlib.Core.Bool.{not}
use mathlib.Core.Path.{refl, ap, ◌∙◌}
use lib.ListN.{length}
use Rattle.labyrinth.specs.Refusals.{expand_refusal, under_length, expansion}
use Rattle.labyrinth.specs.declared.Expanded.{Expanded}
use Rattle.sets.specs.declared.Store.{Store}
use Rattle.sets.specs.Sets.{loaded, parts_in}
use Rattle.records.specs.Records.{store_in}
use Rattle.records.proofs.Numbers.{records_refused, records_passed, records_long}
use Rattle.stores_c.proofs.Changes.{expand_refused, expand_made}
use Rattle.stores_c.proofs.labyrinth_expand.Goals as goal
use Rattle.stores_c.proofs.labyrinth_expand.Goals.{Start}

-- what expansion answers by a store
abbrev answer : Start → Store → Expanded
answer s = let a = s.args in
    λ st. expansion (parts_in st a.set).SM a.set a.n a.l a.key.now (under_length a.n a.l (loaded st a.set) (expand_refusal a.n a.l (length a.key.now)))

pub returns-then-not-fit : goal.returns-then-not-fit
returns-then-not-fit c =
    let a = c.args in
    record { number = records_refused a.store.now a.working.now c.fit.ensures _ (ap not c.if-not-fit.true); key = refl }

pub returns-then-x-ne0 : goal.returns-then-x-ne0
returns-then-x-ne0 c =
    let a = c.args in
    let both = expand_refused a.working.now (parts_in (store_in a.store.now) a.set).SM a.set a.n a.l a.key.now
    (records_passed a.store.now a.working.now c.fit.ensures _ (ap not c.if-not-fit.false))
    (c.expand-x.ensures ∙ ap (answer (goal.at.returns-then-x-ne0 c).Start) c.store_of.ensures) c.if-x-ne0.true in record { number = both.0; key = both.1 }

pub returns : goal.returns
returns c =
    let a = c.args in
    let both = expand_made a.working.now (parts_in (store_in a.store.now) a.set).SM a.set a.n a.l a.key.now
    (records_passed a.store.now a.working.now c.fit.ensures _ (ap not c.if-not-fit.false))
    (c.expand-x.ensures ∙ ap (answer (goal.at.returns c).Start) c.store_of.ensures)
    (records_long a.store.now a.working.now c.fit.ensures (ap not c.if-not-fit.false)).1 c.if-x-ne0.false c.put_key.ensures in record { number = both.0; key = both.1 }
