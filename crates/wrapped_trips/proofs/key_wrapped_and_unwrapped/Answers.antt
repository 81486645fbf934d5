-- The first refusal, or the second call's; what was wrapped is unwrapped, and where both stores have the set alike its check value is right and the key comes back.
-- Assumes nothing.
use mathlib.Core.Path.{◌≡◌, refl, sym, ap, ◌∙◌}
use mathlib.Core.Bool.{Bool, true}
use mathlib.Core.List.{List}
use Prim.Native.Nat.{ℕ}
use native.Mathlib.Omega.{arith}
use lib.ListN.{length}
use Rattle.forms.specs.Refusals.{outcome, first_of}
use Rattle.forms.proofs.Bytes.{Bytes, Small}
use Rattle.forms.proofs.Twice.{Both, stopped, went_on, comes_back, first_cong}
use Rattle.labyrinth.specs.Cipher.{Parts}
use Rattle.labyrinth.specs.Keys.{E, U}
use Rattle.labyrinth.specs.Refusals.{under_key}
use Rattle.labyrinth.proofs.Refusals.{under_zero}
use Rattle.modes.specs.KeyWrap.{wrapped, authentic, unwrapped}
use Rattle.modes.specs.Refusals.{wrap_refusal, unwrap_refusal}
use Rattle.modes.proofs.Again.{wrap_authentic, wrap_again}
use Rattle.sets.specs.Sets.{loaded, parts_in}
use Rattle.sets.proofs.Sets.{loaded_sound}
use Rattle.publishers.specs.Pages.{SameSet}
use Rattle.publishers.proofs.Pages.{same_parts}
use Rattle.publishers.proofs.Words.{words_small}
use Rattle.wrapped_trips.proofs.key_wrapped_and_unwrapped.Goals as goal
use Rattle.wrapped_trips.proofs.key_wrapped_and_unwrapped.Goals.{Start}

-- the first call's number, the second's by whether the check value is right and by the length of mid, and what the two make
abbrev first : Start → ℕ
first s = let a = s.args in under_key a.k.n (loaded a.wrapping a.k.set) (wrap_refusal a.k.n (length a.src.now) (length a.mid.now))

abbrev second : Start → Bool → ℕ → ℕ
second s right l = let a = s.args in under_key a.k.n (loaded a.unwrapping a.k.set) (unwrap_refusal a.k.n l (length a.dst.now) right)

abbrev there : Start → List ℕ → List ℕ
there s p = let a = s.args in wrapped (E (parts_in a.wrapping a.k.set) a.k.n a.k.words) p

abbrev back : Start → List ℕ → List ℕ
back s c = let a = s.args in unwrapped (U (parts_in a.unwrapping a.k.set) a.k.n a.k.words) c

abbrev right : Start → List ℕ → Bool
right s c = let a = s.args in authentic (U (parts_in a.unwrapping a.k.set) a.k.n a.k.words) c

-- what both calls come to
abbrev Comes : Start → ℕ → List ℕ → List ℕ → Type 0
Comes s r m d = let a = s.args in Both (first s) (second s (right s (there s a.src.now))) (there s) (back s) a.src.now a.mid.now a.dst.now r m d

-- the second call's check is of what the first wrote
goes_on : (s : Start) {r : ℕ} {m : List ℕ} → r ≡ first s → m ≡ outcome r (there s s.args.src.now) s.args.mid.now → r ≡ 0 → length m ≡ length s.args.mid.now → {q : ℕ} {d : List ℕ}
    → q ≡ second s (right s m) (length m) → d ≡ outcome q (back s m) s.args.dst.now → Comes s q m d
goes_on s {r} {m} e w z l f v =
    let a = s.args in
    let sent : m ≡ there s a.src.now = w ∙ ap (λ (n : ℕ). outcome n (there s a.src.now) a.mid.now) z in
    went_on (first s) (second s (right s (there s a.src.now))) (there s) (back s) a.src.now a.mid.now a.dst.now e w z l (f ∙ ap (λ (x : List ℕ). second s (right s x) (length m)) sent) v

module _ (s : Start) (hp : Bytes s.args.src.now) {r : ℕ} {m d : List ℕ} (b : Comes s r m d) (h : SameSet s.args.k.set s.args.wrapping s.args.unwrapping) where
  small : Small s.args.k.words
  small = words_small s.args.k.words s.well_formed.1.1.0.1.1.1.1.0.0 s.well_formed.1.1.0.1.1.1.1.0.1.1

  -- the check value is right, once the first call passed
  no-wrong : r ≡ first_of (first s) (second s true (length s.args.mid.now))
  no-wrong =
      let a = s.args in
      b.0
      ∙ first_cong (first s) (λ z.
      ap (λ (x : Bool). second s x (length a.mid.now))
      (ap (λ (p : Parts). authentic (U p a.k.n a.k.words) (there s a.src.now)) (sym (same_parts h))
      ∙ wrap_authentic (parts_in a.wrapping a.k.set) a.k.n a.k.words a.src.now (length a.mid.now) (loaded_sound a.wrapping a.k.set h.here) small hp refl (under_zero a.k.n (loaded a.wrapping a.k.set) _ z)))

  -- and the key comes back
  again : d ≡ outcome r s.args.src.now s.args.dst.now
  again =
      let a = s.args in
      comes_back (first s) (second s (right s (there s a.src.now))) (there s) (back s) a.src.now a.mid.now a.dst.now r b (λ z.
      ap (λ (p : Parts). unwrapped (U p a.k.n a.k.words) (there s a.src.now)) (sym (same_parts h))
      ∙ wrap_again (parts_in a.wrapping a.k.set) a.k.n a.k.words a.src.now (length a.mid.now) (loaded_sound a.wrapping a.k.set h.here) small hp refl (under_zero a.k.n (loaded a.wrapping a.k.set) _ z))

pub returns-then-number-ne0 : goal.returns-then-number-ne0
returns-then-number-ne0 c =
    let a = c.args in
    let one = c.wrap-number in
    let hp : Bytes a.src.now = λ i. omega (arith, c.shared_slice_known-1.given i) in
    let b = stopped (first (goal.at.returns-then-number-ne0 c).Start) (second (goal.at.returns-then-number-ne0 c).Start (right (goal.at.returns-then-number-ne0 c).Start (there (goal.at.returns-then-number-ne0 c).Start a.src.now))) (there (goal.at.returns-then-number-ne0 c).Start) (back (goal.at.returns-then-number-ne0 c).Start) a.src.now a.mid.now a.dst.now one.ensures.number one.ensures.key c.if-number-ne0.true in
    record { number = b.0; sent = b.1.0; key = b.1.1; right = λ h. no-wrong (goal.at.returns-then-number-ne0 c).Start hp b h; back = λ h. again (goal.at.returns-then-number-ne0 c).Start hp b h }

pub returns : goal.returns
returns c =
    let a = c.args in
    let one = c.wrap-number in
    let two = c.unwrap in
    let hp : Bytes a.src.now = λ i. omega (arith, c.shared_slice_known-1.given i) in
    let b = goes_on (goal.at.returns c).Start one.ensures.number one.ensures.key c.if-number-ne0.false one.auto.dst two.ensures.number two.ensures.key in
    record { number = b.0; sent = b.1.0; key = b.1.1; right = λ h. no-wrong (goal.at.returns c).Start hp b h; back = λ h. again (goal.at.returns c).Start hp b h }
