-- The lengths of the records refused, or what the keyed reader answers.
-- Assumes nothing.
use mathlib.Core.Path.{ap}
use mathlib.Core.Bool.{not}
use mathlib.Core.List.{List}
use Prim.Native.Nat.{ℕ}
use lib.ListN.{length}
use Rattle.labyrinth.specs.declared.WorkingKey.{WorkingKey}
use Rattle.sets.specs.declared.Store.{Store}
use Rattle.keyed_pages.specs.Keyed.{opened}
use Rattle.keyed_pages.specs.Refusals.{read_refusal}
use Rattle.pages_c.proofs.LentPages.{sealing_refused, tagging_refused, lent_done}
use Rattle.pages_c.proofs.labyrinth_page_open.Goals as goal
use Rattle.pages_c.proofs.labyrinth_page_open.Goals.{Start}

-- the keyed reader's number and body, by the store and the keys
abbrev number : Start → Store → WorkingKey → WorkingKey → ℕ
number s = let a = s.args in λ st k t. read_refusal st k t a.bytes.now (length a.dst.now)

abbrev result : Start → Store → WorkingKey → WorkingKey → List ℕ
result s = let a = s.args in λ st k t. opened st k a.bytes.now

pub returns-then-not-fit : goal.returns-then-not-fit
returns-then-not-fit c =
    let a = c.args in
    let both = sealing_refused a.store.now a.sealing.now a.tagging.now (number (goal.at.returns-then-not-fit c).Start) (result (goal.at.returns-then-not-fit c).Start) a.dst.now c.fit.ensures (ap not c.if-not-fit.true) in record { number = both.0; body = both.1 }

pub returns-then-not-fit-2 : goal.returns-then-not-fit-2
returns-then-not-fit-2 c =
    let a = c.args in
    let both = tagging_refused a.store.now a.sealing.now a.tagging.now (number (goal.at.returns-then-not-fit-2 c).Start) (result (goal.at.returns-then-not-fit-2 c).Start) a.dst.now c.fit.ensures (ap not c.if-not-fit.false)
    c.fit-2.ensures (ap not c.if-not-fit-2.true) in record { number = both.0; body = both.1 }

pub returns : goal.returns
returns c =
    let a = c.args in
    let both = lent_done a.store.now a.sealing.now a.tagging.now (number (goal.at.returns c).Start) (result (goal.at.returns c).Start) a.dst.now c.fit.ensures (ap not c.if-not-fit.false)
    c.fit-2.ensures (ap not c.if-not-fit-2.false) c.store_of-s.ensures c.key_of-k.ensures c.key_of-t.ensures (c.open.ensures.number, c.open.ensures.body) in record { number = both.0; body = both.1 }
