-- What was made is verified, by the same refusals.
-- Assumes nothing.
use mathlib.Core.Path.{refl, ap, ◌∙◌}
use Prim.Native.Nat.{ℕ}
use lib.ListN.{length}
use Rattle.forms.specs.Refusals.{outcome}
use Rattle.labyrinth.specs.Keys.{E}
use Rattle.labyrinth.specs.Refusals.{under_key}
use Rattle.labyrinth.proofs.Refusals.{under_zero}
use Rattle.sets.specs.Sets.{loaded, parts_in}
use Rattle.modes.specs.Cmac.{tag}
use Rattle.modes.specs.Refusals.{cmac_refusal}
use Rattle.modes.proofs.Maps.{keeps_one}
use Rattle.modes.proofs.Refusals.{cmac_taken}
use Rattle.cmac.proofs.Tags.{made_verified}
use Rattle.tag_trips.proofs.tag_made_and_verified.Goals as goal

pub returns : goal.returns
returns c =
    let a = c.args in
    let parts = parts_in a.store a.k.set in
    let e = E parts a.k.n a.k.words in
    let refusal : ℕ → ℕ = λ l. under_key a.k.n (loaded a.store a.k.set) (cmac_refusal a.k.n l) in
    let old = a.tag.now in record {
      answer = made_verified e a.message.now old refusal
          (λ z. let t = cmac_taken a.k.n (length old) refl (under_zero a.k.n (loaded a.store a.k.set) _ z) in (keeps_one parts a.k.n a.k.words t.one, t.top))
          c.make.ensures.number c.make.ensures.tag c.make.auto.dst c.verify.ensures;
      made = c.make.ensures.tag ∙ ap (λ (n : ℕ). outcome n (tag e (length old) a.message.now) old) c.make.ensures.number;
    }
