-- The first refusal, or the second call's; what was sealed is opened, and comes back where both stores have the set alike.
-- Assumes nothing.
use mathlib.Core.Path.{◌≡◌, refl, sym, ap, ◌∙◌}
use mathlib.Core.List.{List}
use Prim.Native.Nat.{ℕ, ◌*◌}
use lib.ListN.{length}
use Rattle.forms.proofs.Twice.{stopped, went_on, comes_back}
use Rattle.labyrinth.specs.Cipher.{Parts}
use Rattle.labyrinth.specs.Keys.{E}
use Rattle.labyrinth.specs.Refusals.{under_key}
use Rattle.labyrinth.proofs.Refusals.{under_zero}
use Rattle.modes.specs.Ctr.{ctr}
use Rattle.modes.specs.Refusals.{ctr_refusal}
use Rattle.modes.proofs.Again.{ctr_again}
use Rattle.sets.specs.Sets.{loaded, parts_in}
use Rattle.publishers.specs.Pages.{SameSet}
use Rattle.publishers.proofs.Pages.{same_parts}
use Rattle.ctr_trips.proofs.ctr_there_and_back.Goals as goal
use Rattle.ctr_trips.proofs.ctr_there_and_back.Goals.{Start}

-- the first call's number, the second's by the length of mid, and the two runs
abbrev first : Start → ℕ
first s =
    let a = s.args in under_key a.k.n (loaded a.sealing a.k.set) (ctr_refusal a.k.n (length a.start.now) (length a.src.now) (length a.mid.now))

abbrev second : Start → ℕ → ℕ
second s l = let a = s.args in under_key a.k.n (loaded a.opening a.k.set) (ctr_refusal a.k.n (length a.start.now) l (length a.dst.now))

abbrev there : Start → List ℕ → List ℕ
there s p = let a = s.args in ctr (E (parts_in a.sealing a.k.set) a.k.n a.k.words) (16 * a.k.n) a.start.now a.q p

abbrev back : Start → List ℕ → List ℕ
back s p = let a = s.args in ctr (E (parts_in a.opening a.k.set) a.k.n a.k.words) (16 * a.k.n) a.start.now a.q p

-- the second undoes the first, once that passed
again : (s : Start) → SameSet s.args.k.set s.args.sealing s.args.opening → first s ≡ 0 → back s (there s s.args.src.now) ≡ s.args.src.now
again s h z =
    let a = s.args in
    ap (λ (p : Parts). ctr (E p a.k.n a.k.words) (16 * a.k.n) a.start.now a.q (there s a.src.now)) (sym (same_parts h))
    ∙ ctr_again (parts_in a.sealing a.k.set) a.k.n a.k.words a.start.now a.src.now (length a.mid.now) a.q refl
    (under_zero a.k.n (loaded a.sealing a.k.set) _ z)

pub returns-then-number-ne0 : goal.returns-then-number-ne0
returns-then-number-ne0 c =
    let a = c.args in
    let one = c.run-number in
    let b = stopped (first (goal.at.returns-then-number-ne0 c).Start) (second (goal.at.returns-then-number-ne0 c).Start) (there (goal.at.returns-then-number-ne0 c).Start) (back (goal.at.returns-then-number-ne0 c).Start) a.src.now a.mid.now a.dst.now one.ensures.number one.ensures.run c.if-number-ne0.true in
    record { number = b.0; sealed = b.1.0; opened = b.1.1; back = λ h. comes_back (first (goal.at.returns-then-number-ne0 c).Start) (second (goal.at.returns-then-number-ne0 c).Start) (there (goal.at.returns-then-number-ne0 c).Start) (back (goal.at.returns-then-number-ne0 c).Start) a.src.now a.mid.now a.dst.now _ b (again (goal.at.returns-then-number-ne0 c).Start h) }

pub returns : goal.returns
returns c =
    let a = c.args in
    let one = c.run-number in
    let two = c.run in
    let b = went_on (first (goal.at.returns c).Start) (second (goal.at.returns c).Start) (there (goal.at.returns c).Start) (back (goal.at.returns c).Start) a.src.now a.mid.now a.dst.now one.ensures.number one.ensures.run c.if-number-ne0.false one.auto.dst two.ensures.number two.ensures.run in
    record { number = b.0; sealed = b.1.0; opened = b.1.1; back = λ h. comes_back (first (goal.at.returns c).Start) (second (goal.at.returns c).Start) (there (goal.at.returns c).Start) (back (goal.at.returns c).Start) a.src.now a.mid.now a.dst.now _ b (again (goal.at.returns c).Start h) }
