-- The lengths of the records refused, set 0 without the store, or the set that the key names.
-- Assumes nothing.
use mathlib.Core.Path.{ap}
use mathlib.Core.Bool.{not}
use mathlib.Core.List.{List}
use Prim.Native.Nat.{ℕ, ◌*◌}
use lib.ListN.{length}
use Rattle.labyrinth.specs.Cipher.{Parts}
use Rattle.labyrinth.specs.Keys.{E}
use Rattle.modes.specs.Ctr.{ctr}
use Rattle.modes.specs.Refusals.{ctr_refusal}
use Rattle.modes.proofs.Refusals.{ctr_one}
use Rattle.records.specs.Lent.{lent_e, lent_size}
use Rattle.records.proofs.Lent.{lent_refused, lent_named, lent_published}
use Rattle.runs_c.proofs.labyrinth_key_ctr.Goals as goal
use Rattle.runs_c.proofs.labyrinth_key_ctr.Goals.{Start}

-- the operation's number by n, and its result by the parts, n and the words of a key
abbrev number : Start → ℕ → ℕ
number s = let a = s.args in λ n. ctr_refusal n (length a.start.now) (length a.src.now) (length a.dst.now)

abbrev result : Start → Parts → ℕ → List ℕ → List ℕ
result s = let a = s.args in λ p n ws. ctr (E p n ws) (16 * n) a.start.now a.q a.src.now

pub returns-then-not-fit : goal.returns-then-not-fit
unfolding lent_e lent_size
returns-then-not-fit c = let both = lent_refused c.args.store.now c.args.working.now (number (goal.at.returns-then-not-fit c).Start) (result (goal.at.returns-then-not-fit c).Start) c.args.dst.now c.fit.ensures (ap not c.if-not-fit.true) in record { number = both.0; run = both.1 }

pub returns-then-k-eq0 : goal.returns-then-k-eq0
unfolding lent_e lent_size
returns-then-k-eq0 c = let both = lent_published c.args.store.now c.args.working.now (number (goal.at.returns-then-k-eq0 c).Start) (result (goal.at.returns-then-k-eq0 c).Start) c.args.dst.now c.fit.ensures (ap not c.if-not-fit.false) c.key_of-k.ensures
    c.if-k-eq0.true (ctr_one _ (length c.args.start.now) (length c.args.src.now) (length c.args.dst.now)) (c.run_published.ensures.number, c.run_published.ensures.run) in record { number = both.0; run = both.1 }

pub returns : goal.returns
unfolding lent_e lent_size
returns c = let both = lent_named c.args.store.now c.args.working.now (number (goal.at.returns c).Start) (result (goal.at.returns c).Start) c.args.dst.now c.fit.ensures (ap not c.if-not-fit.false) c.key_of-k.ensures
    c.store_of.ensures (c.run.ensures.number, c.run.ensures.run) in record { number = both.0; run = both.1 }
