-- The lengths of the records refused, set 0 without the store, or the set that the key names.
-- Assumes nothing.
use mathlib.Core.Path.{ap}
use mathlib.Core.Bool.{not}
use mathlib.Core.List.{List}
use Prim.Native.Nat.{ℕ}
use lib.ListN.{length}
use Rattle.labyrinth.specs.Cipher.{Parts}
use Rattle.labyrinth.specs.Keys.{E}
use Rattle.modes.specs.Cmac.{tag}
use Rattle.modes.specs.Refusals.{cmac_refusal}
use Rattle.modes.proofs.Refusals.{cmac_one}
use Rattle.records.specs.Lent.{lent_e}
use Rattle.records.proofs.Lent.{lent_refused, lent_named, lent_published}
use Rattle.tags_c.proofs.labyrinth_key_cmac.Goals as goal
use Rattle.tags_c.proofs.labyrinth_key_cmac.Goals.{Start}

-- the operation's number by n, and its result by the parts, n and the words of a key
abbrev number : Start → ℕ → ℕ
number s = let a = s.args in λ n. cmac_refusal n (length a.tag.now)

abbrev result : Start → Parts → ℕ → List ℕ → List ℕ
result s = let a = s.args in λ p n ws. tag (E p n ws) (length a.tag.now) a.message.now

pub returns-then-not-fit : goal.returns-then-not-fit
unfolding lent_e
returns-then-not-fit c = let both = lent_refused c.args.store.now c.args.working.now (number (goal.at.returns-then-not-fit c).Start) (result (goal.at.returns-then-not-fit c).Start) c.args.tag.now c.fit.ensures (ap not c.if-not-fit.true) in record { number = both.0; tag = both.1 }

pub returns-then-k-eq0 : goal.returns-then-k-eq0
unfolding lent_e
returns-then-k-eq0 c = let both = lent_published c.args.store.now c.args.working.now (number (goal.at.returns-then-k-eq0 c).Start) (result (goal.at.returns-then-k-eq0 c).Start) c.args.tag.now c.fit.ensures (ap not c.if-not-fit.false) c.key_of-k.ensures
    c.if-k-eq0.true (cmac_one _ (length c.args.tag.now)) (c.make_published.ensures.number, c.make_published.ensures.tag) in record { number = both.0; tag = both.1 }

pub returns : goal.returns
unfolding lent_e
returns c = let both = lent_named c.args.store.now c.args.working.now (number (goal.at.returns c).Start) (result (goal.at.returns c).Start) c.args.tag.now c.fit.ensures (ap not c.if-not-fit.false) c.key_of-k.ensures
    c.store_of.ensures (c.make.ensures.number, c.make.ensures.tag) in record { number = both.0; tag = both.1 }
