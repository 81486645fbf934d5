-- Set 0 without the store, or the set that the key names.
-- Assumes nothing.
use mathlib.Core.Path.{ap, ap₂, ◌∙◌}
use lib.ListN.{length}
use Rattle.labyrinth.specs.declared.WorkingKey.{WorkingKey}
use Rattle.labyrinth.specs.Keys.{E}
use Rattle.labyrinth.specs.Refusals.{under_key}
use Rattle.sets.specs.declared.Store.{Store}
use Rattle.sets.specs.Sets.{loaded, parts_in}
use Rattle.modes.specs.Refusals.{cmac_refusal}
use Rattle.cmac.specs.declared.Verified.{Verified}
use Rattle.cmac.specs.Verification.{verification}
use Rattle.cmac.proofs.Tags.{verified_published}
use Rattle.records.specs.Records.{store_in}
use Rattle.records.specs.Lent.{lent_e}
use Rattle.tags_c.proofs.verified.Goals as goal
use Rattle.tags_c.proofs.verified.Goals.{Start}

-- the answer by a store and a key
abbrev answer : Start → Store → WorkingKey → Verified
answer s = let a = s.args in
    λ st k. verification (E (parts_in st k.set) k.n k.words) a.message.now a.tag.now (under_key k.n (loaded st k.set) (cmac_refusal k.n (length a.tag.now)))

pub returns-then-k-eq0 : goal.returns-then-k-eq0
unfolding lent_e
returns-then-k-eq0 c =
    let k = c.key_of-k.result in
    c.verify_published.ensures
    ∙ verified_published (store_in c.args.store.now) k.set k.n k.words c.args.message.now c.args.tag.now c.if-k-eq0.true
    ∙ ap (answer (goal.at.returns-then-k-eq0 c).Start (store_in c.args.store.now)) c.key_of-k.ensures

pub returns : goal.returns
unfolding lent_e
returns c =
    c.verify.ensures ∙ ap₂ (answer (goal.at.returns c).Start) c.store_of.ensures c.key_of-k.ensures
