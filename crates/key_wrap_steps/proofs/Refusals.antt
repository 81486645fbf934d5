-- What the number of the steps says, and what they make where it is 0.
-- Assumes nothing.
use mathlib.Core.Path.{◌≡◌, refl, sym, ap, ◌∙◌}
use mathlib.Core.List.{List}
use Prim.Native.Nat.{ℕ, ◌%◌, ◌≤◌}
use lib.Dec.{eqb, leb}
use borrow.Author.Tests.{eq-eqb, eqb-true, le-leb, leb-true}
use Rattle.forms.specs.Refusals.{outcome}
use Rattle.forms.proofs.Refusals.{unless_zero}
use Rattle.key_wrap_steps.specs.Steps.{steps_refusal}

module _ (first rest : ℕ) where
  pub steps_taken : {r : ℕ} → r ≡ steps_refusal first rest → r ≡ 0 → (first ≡ 8) × (rest % 8 ≡ 0) × (rest ≤ 128)
  unfolding steps_refusal
  steps_taken e z =
      let a = unless_zero (eqb first 8) 3 _ (sym e ∙ z) in
      let b = unless_zero (eqb (rest % 8) 0) 3 _ a.1 in
      (eqb-true first 8 a.0, eqb-true (rest % 8) 0 b.0, leb-true rest 128 (unless_zero (leb rest 128) 3 0 b.1).0)

  pub steps_none : first ≡ 8 → rest % 8 ≡ 0 → rest ≤ 128 → steps_refusal first rest ≡ 0
  unfolding steps_refusal
  steps_none p q h = rw (eq-eqb first 8 p, eq-eqb (rest % 8) 0 q, le-leb rest 128 h) refl

  -- so of a semiblock and whole ones behind it they make what they should
  pub steps_made : (x old : List ℕ) {r : ℕ} {d : List ℕ} → first ≡ 8 → rest % 8 ≡ 0 → rest ≤ 128 → r ≡ steps_refusal first rest → d ≡ outcome r x old → d ≡ x
  steps_made x old p q h e w = w ∙ ap (λ (r : ℕ). outcome r x old) (e ∙ steps_none p q h)
