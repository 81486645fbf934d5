-- Set 0 goes its own way; else the checks, and what is prepared of the set gives E by its tables.
-- Assumes nothing.
use mathlib.Core.Path.{◌≡◌, refl, ap, ◌∙◌}
use mathlib.Core.Bool.{Bool, false}
use lib.ListN.{length}
use Rattle.labyrinth.specs.Keys.{E}
use Rattle.labyrinth.specs.Refusals.{under_key}
use Rattle.labyrinth.specs.Lent.{lent}
use Rattle.labyrinth.proofs.Refusals.{under_refused}
use Rattle.sets.specs.Sets.{loaded, parts_in}
use Rattle.sets.proofs.Lent.{Made, set_made, set_number, set_by_one}
use Rattle.modes.specs.Refusals.{cmac_refusal}
use Rattle.modes.proofs.Refusals.{cmac_taken}
use Rattle.cmac.proofs.Tags.{refused_no, verified_under, verified_published}
use Rattle.cmac.proofs.verify.Goals as goal
use Rattle.cmac.proofs.verify.Goals.{After-schedule-keys, After-under_key-number}

pub returns-then-k-eq0 : goal.returns-then-k-eq0
returns-then-k-eq0 c =
    let a = c.args in
    c.verify_published.ensures ∙ verified_published a.store a.k.set a.k.n a.k.words a.message.now a.tag.now c.if-k-eq0.true

-- 1, then 15
checked : (c : After-under_key-number) → let a = c.args in c.under_key-number.result ≡ under_key a.k.n (loaded a.store a.k.set) 0
checked c = c.under_key-number.ensures ∙ ap (λ (b : Bool). under_key c.args.k.n b 0) c.is_loaded.ensures

pub returns-then-number-ne0 : goal.returns-then-number-ne0
returns-then-number-ne0 c = c.refused.ensures ∙ refused_no _ _ _ _ (under_refused _ _ _ (checked (goal.at.returns-then-number-ne0 c).After-under_key-number) c.if-number-ne0.true) c.if-number-ne0.true

-- what is prepared
made : (c : After-schedule-keys) → let a = c.args in
    Made a.store a.k.set false a.k.n a.k.words c.table_of-t.result c.set_in-set.result.substitution c.inverse_of-u.result c.schedule-keys.result c.under_key-number.result
made c =
    let a = c.args in
    set_made a.store a.k.set (checked (goal.at.After-schedule-keys c).After-under_key-number) c.if-number-ne0.false c.set_in-set.ensures c.table_of-t.ensures c.inverse_of-u.ensures c.schedule-keys.ensures

pub returns : goal.returns
returns c =
    let a = c.args in
    c.verify_lent.ensures
    ∙ verified_under (lent a.k.n c.table_of-t.result c.set_in-set.result.substitution c.inverse_of-u.result c.schedule-keys.result)
    (E (parts_in a.store a.k.set) a.k.n a.k.words) a.message.now a.tag.now (set_number a.store a.k.set (made (goal.at.returns c).After-schedule-keys) (cmac_refusal a.k.n (length a.tag.now)) refl)
    (λ z. set_by_one a.store a.k.set (made (goal.at.returns c).After-schedule-keys) (cmac_taken _ _ refl z).size)
