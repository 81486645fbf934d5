-- A chain followed as far as the entries were passed, as a loop does it: what the later ones add to it.
-- Assumes nothing.
use mathlib.Core.Path.{◌≡◌, refl, sym, ap, ap₂, ◌∙◌}
use mathlib.Core.Bool.{true, false}
use mathlib.Core.List.{List}
use Prim.Native.Nat.{ℕ, ◌+◌, ◌≤◌, ◌<◌}
use native.Mathlib.Numerals.{add-one}
use native.Mathlib.Omega.{arith}
use lib.ListN.{length, drop}
use Rattle.forms.specs.Lists.{last}
use Rattle.registers.specs.declared.Entry.{Entry}
use Rattle.registers.specs.Registers.{entry_at, number_at, replaces_number, follow, replacements, chain, current, followed}
use Rattle.registers.proofs.Chains.{follow_hit, follow_miss, follow_end}

-- the entry at `at`, with the number `reached`, was reached in so many steps, and the entries before place i were passed
pub record Followed (es : List Entry) (start reached at steps i : ℕ) : Type 0 where
  pub place : current es start ≡ last at (follow reached i (drop i es))
  pub count : followed es start ≡ steps + length (follow reached i (drop i es))

pub followed_none : (es : List Entry) (start : ℕ) → Followed es start (number_at es start) start 0 (start + 1)
unfolding current followed chain replacements last
followed_none es start = rw add-one (record { place = refl; count = omega arith })

module _ (es : List Entry) (start reached at steps i : ℕ) (h : Followed es start reached at steps i) where
  pub followed_hit : i < length es → replaces_number reached (entry_at es i) ≡ true → Followed es start (number_at es i) i (steps + 1) (i + 1)
  unfolding last chain replacements
  followed_hit l t =
      let f = follow_hit es i l reached t in
      rw (add-one i)
      (record {
        place = h.place ∙ ap (last at) f;
        count = let c = h.count ∙ ap (λ (xs : List ℕ). steps + length xs) f in omega arith;
      })

  pub followed_miss : i < length es → replaces_number reached (entry_at es i) ≡ false → Followed es start reached at steps (i + 1)
  followed_miss l t =
      let f = follow_miss es i l reached t in
      rw (add-one i)
      (record { place = h.place ∙ ap (last at) f; count = h.count ∙ ap (λ (xs : List ℕ). steps + length xs) f })

  pub followed_all : length es ≤ i → (at ≡ current es start) × (steps ≡ followed es start)
  unfolding last
  followed_all l =
      let f = follow_end es reached i l in
      let c = h.count ∙ ap (λ (xs : List ℕ). steps + length xs) f in
      (sym (h.place ∙ ap (last at) f), omega arith)

-- at values that equal those
pub followed_at : {es : List Entry} {start reached at steps i reached' at' steps' : ℕ} → reached' ≡ reached → at' ≡ at → steps' ≡ steps
    → Followed es start reached at steps i → Followed es start reached' at' steps' i
followed_at {es} {start} {reached} {at} {steps} {i} p q r h =
    record {
      place = h.place ∙ sym (ap₂ (λ (n a : ℕ). last a (follow n i (drop i es))) p q);
      count = h.count ∙ sym (ap₂ (λ (n k : ℕ). k + length (follow n i (drop i es))) p r);
    }
