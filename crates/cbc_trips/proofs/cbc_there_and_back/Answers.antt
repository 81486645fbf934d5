-- The first refusal, or the second call's; what was sealed is opened, and comes back where both stores have the set alike.
-- Assumes nothing.
use mathlib.Core.Path.{◌≡◌, refl, sym, ap, ◌∙◌}
use mathlib.Core.List.{List}
use Prim.Native.Nat.{ℕ, ◌*◌}
use native.Mathlib.Omega.{arith}
use lib.ListN.{length}
use Rattle.forms.proofs.Bytes.{Bytes}
use Rattle.forms.proofs.Twice.{stopped, went_on, comes_back}
use Rattle.labyrinth.specs.Cipher.{Parts}
use Rattle.labyrinth.specs.Keys.{E, U}
use Rattle.labyrinth.specs.Refusals.{under_key}
use Rattle.labyrinth.proofs.Refusals.{under_zero}
use Rattle.modes.specs.Cbc.{cbc_seal, cbc_open}
use Rattle.modes.specs.Refusals.{cbc_refusal}
use Rattle.modes.proofs.Again.{cbc_again}
use Rattle.sets.specs.Sets.{loaded, parts_in}
use Rattle.sets.proofs.Sets.{loaded_sound}
use Rattle.publishers.specs.Pages.{SameSet}
use Rattle.publishers.proofs.Pages.{same_parts}
use Rattle.publishers.proofs.Words.{words_small}
use Rattle.cbc_trips.proofs.cbc_there_and_back.Goals as goal
use Rattle.cbc_trips.proofs.cbc_there_and_back.Goals.{Start}

-- the first call's number, the second's by the length of mid, and the two runs
abbrev first : Start → ℕ
first s =
    let a = s.args in under_key a.k.n (loaded a.sealing a.k.set) (cbc_refusal a.k.n (length a.start.now) (length a.src.now) (length a.mid.now))

abbrev second : Start → ℕ → ℕ
second s l = let a = s.args in under_key a.k.n (loaded a.opening a.k.set) (cbc_refusal a.k.n (length a.start.now) l (length a.dst.now))

abbrev there : Start → List ℕ → List ℕ
there s p = let a = s.args in cbc_seal (E (parts_in a.sealing a.k.set) a.k.n a.k.words) (16 * a.k.n) a.start.now p

abbrev back : Start → List ℕ → List ℕ
back s p = let a = s.args in cbc_open (U (parts_in a.opening a.k.set) a.k.n a.k.words) (16 * a.k.n) a.start.now p

-- the second undoes the first, once that passed
again : (s : Start) → Bytes s.args.start.now → Bytes s.args.src.now → SameSet s.args.k.set s.args.sealing s.args.opening → first s ≡ 0 → back s (there s s.args.src.now) ≡ s.args.src.now
again s hs hp h z =
    let a = s.args in
    ap (λ (p : Parts). cbc_open (U p a.k.n a.k.words) (16 * a.k.n) a.start.now (there s a.src.now)) (sym (same_parts h))
    ∙ cbc_again (parts_in a.sealing a.k.set) a.k.n a.k.words a.start.now a.src.now (length a.mid.now) (loaded_sound a.sealing a.k.set h.here)
    (words_small a.k.words s.well_formed.1.1.0.1.1.1.1.0.0 s.well_formed.1.1.0.1.1.1.1.0.1.1) hs hp refl (under_zero a.k.n (loaded a.sealing a.k.set) _ z)

pub returns-then-number-ne0 : goal.returns-then-number-ne0
returns-then-number-ne0 c =
    let a = c.args in
    let one = c.seal-number in
    let b = stopped (first (goal.at.returns-then-number-ne0 c).Start) (second (goal.at.returns-then-number-ne0 c).Start) (there (goal.at.returns-then-number-ne0 c).Start) (back (goal.at.returns-then-number-ne0 c).Start) a.src.now a.mid.now a.dst.now one.ensures.number one.ensures.run c.if-number-ne0.true in
    record { number = b.0; sealed = b.1.0; opened = b.1.1; back = λ h. comes_back (first (goal.at.returns-then-number-ne0 c).Start) (second (goal.at.returns-then-number-ne0 c).Start) (there (goal.at.returns-then-number-ne0 c).Start) (back (goal.at.returns-then-number-ne0 c).Start) a.src.now a.mid.now a.dst.now _ b (again (goal.at.returns-then-number-ne0 c).Start (λ i. omega (arith, c.shared_slice_known-1.given i)) (λ i. omega (arith, c.shared_slice_known-2-1.given i)) h) }

pub returns : goal.returns
returns c =
    let a = c.args in
    let one = c.seal-number in
    let two = c.open in
    let b = went_on (first (goal.at.returns c).Start) (second (goal.at.returns c).Start) (there (goal.at.returns c).Start) (back (goal.at.returns c).Start) a.src.now a.mid.now a.dst.now one.ensures.number one.ensures.run c.if-number-ne0.false one.auto.dst two.ensures.number two.ensures.run in
    record { number = b.0; sealed = b.1.0; opened = b.1.1; back = λ h. comes_back (first (goal.at.returns c).Start) (second (goal.at.returns c).Start) (there (goal.at.returns c).Start) (back (goal.at.returns c).Start) a.src.now a.mid.now a.dst.now _ b (again (goal.at.returns c).Start (λ i. omega (arith, c.shared_slice_known-1.given i)) (λ i. omega (arith, c.shared_slice_known-2-1.given i)) h) }
