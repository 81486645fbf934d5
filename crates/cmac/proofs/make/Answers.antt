-- Set 0 goes its own way; else the checks, and what is prepared of the set gives E by its tables.
-- Assumes nothing.
use mathlib.Core.Path.{◌≡◌, ap, ◌∙◌}
use mathlib.Core.Bool.{Bool, false}
use mathlib.Core.List.{List}
use Prim.Native.Nat.{ℕ}
use lib.ListN.{length}
use Rattle.forms.proofs.Refusals.{refused_keeps}
use Rattle.labyrinth.specs.Cipher.{Parts}
use Rattle.labyrinth.specs.Keys.{E}
use Rattle.labyrinth.specs.Refusals.{under_key}
use Rattle.labyrinth.proofs.Refusals.{under_refused}
use Rattle.sets.specs.Sets.{loaded}
use Rattle.sets.proofs.Sets.{published_answer}
use Rattle.sets.proofs.Lent.{Made, set_made, set_run}
use Rattle.modes.specs.Cmac.{tag}
use Rattle.modes.proofs.Refusals.{cmac_taken, cmac_one}
use Rattle.cmac.proofs.make.Goals as goal
use Rattle.cmac.proofs.make.Goals.{After-schedule-keys, After-under_key-number}

pub returns-then-k-eq0 : goal.returns-then-k-eq0
returns-then-k-eq0 c =
    let a = c.args in
    let mapped = c.make_published.ensures in
    let both = published_answer a.store a.k.set a.k.n (λ (p : Parts). tag (E p a.k.n a.k.words) (length a.dst.now) a.message.now) a.dst.now c.if-k-eq0.true
    (cmac_one a.k.n (length a.dst.now)) mapped.number mapped.tag in record { number = both.0; tag = both.1 }

-- 1, then 15
checked : (c : After-under_key-number) → let a = c.args in c.under_key-number.result ≡ under_key a.k.n (loaded a.store a.k.set) 0
checked c = c.under_key-number.ensures ∙ ap (λ (b : Bool). under_key c.args.k.n b 0) c.is_loaded.ensures

pub returns-then-number-ne0 : goal.returns-then-number-ne0
returns-then-number-ne0 c = record { number = under_refused _ _ _ (checked (goal.at.returns-then-number-ne0 c).After-under_key-number) c.if-number-ne0.true; tag = refused_keeps _ _ _ c.if-number-ne0.true }

-- what is prepared
made : (c : After-schedule-keys) → let a = c.args in
    Made a.store a.k.set false a.k.n a.k.words c.table_of-t.result c.set_in-v.result.substitution c.inverse_of-u.result c.schedule-keys.result c.under_key-number.result
made c =
    let a = c.args in
    set_made a.store a.k.set (checked (goal.at.After-schedule-keys c).After-under_key-number) c.if-number-ne0.false c.set_in-v.ensures c.table_of-t.ensures c.inverse_of-u.ensures c.schedule-keys.ensures

pub returns : goal.returns
returns c =
    let a = c.args in
    let mapped = c.make_lent.ensures in
    let both = set_run a.store a.k.set (made (goal.at.returns c).After-schedule-keys) (λ (m : List ℕ → List ℕ). tag m (length a.dst.now) a.message.now) a.dst.now (λ z. (cmac_taken _ _ mapped.number z).size) mapped.number mapped.tag in record { number = both.0; tag = both.1 }
