-- The first refusal, or the second call's; what was unwrapped is wrapped, and comes back where both stores have the set alike.
-- Assumes nothing.
use mathlib.Core.Path.{◌≡◌, refl, sym, ap, ◌∙◌}
use mathlib.Core.List.{List}
use Prim.Native.Nat.{ℕ}
use native.Mathlib.Omega.{arith}
use lib.ListN.{length}
use Rattle.forms.specs.Refusals.{outcome}
use Rattle.forms.proofs.Bytes.{Bytes}
use Rattle.forms.proofs.Twice.{Both, stopped, went_on, comes_back}
use Rattle.labyrinth.specs.Cipher.{Parts}
use Rattle.labyrinth.specs.Keys.{E, U}
use Rattle.labyrinth.specs.Refusals.{under_key}
use Rattle.labyrinth.proofs.Refusals.{under_zero}
use Rattle.modes.specs.KeyWrap.{wrapped, authentic, unwrapped}
use Rattle.modes.specs.Refusals.{wrap_refusal, unwrap_refusal}
use Rattle.modes.proofs.Again.{unwrap_again}
use Rattle.sets.specs.Sets.{loaded, parts_in}
use Rattle.sets.proofs.Sets.{loaded_sound}
use Rattle.publishers.specs.Pages.{SameSet}
use Rattle.publishers.proofs.Pages.{same_parts}
use Rattle.publishers.proofs.Words.{words_small}
use Rattle.wrapped_trips.proofs.key_unwrapped_and_wrapped.Goals as goal
use Rattle.wrapped_trips.proofs.key_unwrapped_and_wrapped.Goals.{Start}

-- the first call's number, the second's by the length of mid, and what the two make
abbrev first : Start → ℕ
first s =
    let a = s.args in
    under_key a.k.n (loaded a.unwrapping a.k.set) (unwrap_refusal a.k.n (length a.src.now) (length a.mid.now) (authentic (U (parts_in a.unwrapping a.k.set) a.k.n a.k.words) a.src.now))

abbrev second : Start → ℕ → ℕ
second s l = let a = s.args in under_key a.k.n (loaded a.wrapping a.k.set) (wrap_refusal a.k.n l (length a.dst.now))

abbrev there : Start → List ℕ → List ℕ
there s c = let a = s.args in unwrapped (U (parts_in a.unwrapping a.k.set) a.k.n a.k.words) c

abbrev back : Start → List ℕ → List ℕ
back s p = let a = s.args in wrapped (E (parts_in a.wrapping a.k.set) a.k.n a.k.words) p

-- what both calls come to, and what comes back
abbrev Comes : Start → ℕ → List ℕ → List ℕ → Type 0
Comes s r m d = let a = s.args in Both (first s) (second s) (there s) (back s) a.src.now a.mid.now a.dst.now r m d

again : (s : Start) → Bytes s.args.src.now → {r : ℕ} {m d : List ℕ} → Comes s r m d → SameSet s.args.k.set s.args.unwrapping s.args.wrapping → d ≡ outcome r s.args.src.now s.args.dst.now
again s hc {r} b h =
    let a = s.args in
    comes_back (first s) (second s) (there s) (back s) a.src.now a.mid.now a.dst.now r b (λ z.
    ap (λ (p : Parts). wrapped (E p a.k.n a.k.words) (there s a.src.now)) (sym (same_parts h))
    ∙ unwrap_again (parts_in a.unwrapping a.k.set) a.k.n a.k.words a.src.now (length a.mid.now) (loaded_sound a.unwrapping a.k.set h.here)
    (words_small a.k.words s.well_formed.1.1.0.1.1.1.1.0.0 s.well_formed.1.1.0.1.1.1.1.0.1.1) hc refl (under_zero a.k.n (loaded a.unwrapping a.k.set) _ z))

pub returns-then-number-ne0 : goal.returns-then-number-ne0
returns-then-number-ne0 c =
    let a = c.args in
    let one = c.unwrap-number in
    let hc : Bytes a.src.now = λ i. omega (arith, c.shared_slice_known-1.given i) in
    let b = stopped (first (goal.at.returns-then-number-ne0 c).Start) (second (goal.at.returns-then-number-ne0 c).Start) (there (goal.at.returns-then-number-ne0 c).Start) (back (goal.at.returns-then-number-ne0 c).Start) a.src.now a.mid.now a.dst.now one.ensures.number one.ensures.key c.if-number-ne0.true in
    record { number = b.0; key = b.1.0; sent = b.1.1; back = λ h. again (goal.at.returns-then-number-ne0 c).Start hc b h }

pub returns : goal.returns
returns c =
    let a = c.args in
    let one = c.unwrap-number in
    let two = c.wrap in
    let hc : Bytes a.src.now = λ i. omega (arith, c.shared_slice_known-1.given i) in
    let b = went_on (first (goal.at.returns c).Start) (second (goal.at.returns c).Start) (there (goal.at.returns c).Start) (back (goal.at.returns c).Start) a.src.now a.mid.now a.dst.now one.ensures.number one.ensures.key c.if-number-ne0.false one.auto.dst two.ensures.number two.ensures.key in
    record { number = b.0; key = b.1.0; sent = b.1.1; back = λ h. again (goal.at.returns c).Start hc b h }
