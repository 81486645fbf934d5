-- Two calls in a row, the second over what the first wrote: a first that is refused stops.
-- Assumes nothing.
use mathlib.Core.Path.{◌≡◌, refl, sym, ap, ◌∙◌}
use mathlib.Core.List.{List}
use Prim.Native.Nat.{ℕ, zero, suc}
use native.Mathlib.Omega.{arith}
use borrow.Author.Tests.{eq-eqb, ne_eqb}
use lib.Dec.{eqb}
use lib.ListN.{length}
use Rattle.forms.specs.Refusals.{Unless, outcome, first_of}
use Rattle.forms.proofs.Refusals.{outcome_cong, refused_keeps, unless_plain}
use Rattle.forms.proofs.Booleans.{eqb_iff}

pub first_refused : (a b : ℕ) → (a ≡ 0 → ⊥) → a ≡ first_of a b
unfolding first_of
first_refused a b h = rw (ne_eqb a 0 h)

pub first_passed : (a b : ℕ) → a ≡ 0 → b ≡ first_of a b
unfolding first_of
first_passed a b h = rw (eq-eqb a 0 h)

pub first_zero : (a b : ℕ) → first_of a b ≡ 0 → (a ≡ 0) × (b ≡ 0)
first_zero zero b e = (refl, first_passed 0 b refl ∙ e)
first_zero (suc a) b e = let h : suc a ≡ 0 → ⊥ = λ z. omega arith in absurd (h (first_refused (suc a) b h ∙ e))

-- a second number that matters only where the first is 0
pub first_cong : (a : ℕ) {b c : ℕ} → (a ≡ 0 → b ≡ c) → first_of a b ≡ first_of a c
first_cong zero h = sym (first_passed 0 _ refl) ∙ h refl ∙ first_passed 0 _ refl
first_cong (suc a) h = sym (first_refused (suc a) _ (λ z. omega arith)) ∙ first_refused (suc a) _ (λ z. omega arith)

-- in plain terms: the first number unless it is 0, then the second
pub first_plain : (a b : ℕ) {r : ℕ} → r ≡ first_of a b → Unless (a ≡ 0) (r ≡ a) (r ≡ b)
unfolding first_of
first_plain a b e = unless_plain (eqb a 0) a b e (eqb_iff a 0) (λ e. e)

-- the first answers first and maps by run, from src to mid; the second answers second, by the length of mid, and maps by back, from mid to dst
module _ (first : ℕ) (second : ℕ → ℕ) (run back : List ℕ → List ℕ) (src mid dst : List ℕ) where
  -- what both come to, where the last call that was made answers r and the buffers then hold m and d
  abbrev pub Both : ℕ → List ℕ → List ℕ → Type 0
  Both r m d = (r ≡ first_of first (second (length mid))) × ((m ≡ outcome first (run src) mid) × (d ≡ outcome r (back (run src)) dst))

  module _ {r : ℕ} {m : List ℕ} (e : r ≡ first) (w : m ≡ outcome r (run src) mid) where
    written : m ≡ outcome first (run src) mid
    written = w ∙ ap (λ (k : ℕ). outcome k (run src) mid) e

    -- the first is refused
    pub stopped : (r ≡ 0 → ⊥) → Both r m dst
    stopped h = (e ∙ first_refused first (second (length mid)) (λ z. h (e ∙ z)), (written, refused_keeps r (back (run src)) dst h))

    -- it passes
    pub went_on : r ≡ 0 → length m ≡ length mid → {r₂ : ℕ} {d : List ℕ} → r₂ ≡ second (length m) → d ≡ outcome r₂ (back m) dst → Both r₂ m d
    went_on z l {r₂} e₂ w₂ = (
      e₂ ∙ ap second l ∙ first_passed first (second (length mid)) (sym e ∙ z),
      (written, w₂ ∙ ap (λ (x : List ℕ). outcome r₂ x dst) (ap back (w ∙ ap (λ (k : ℕ). outcome k (run src) mid) z))),
    )

  -- where the second undoes the first, once that passed, what was given comes back
  pub comes_back : (r : ℕ) {m d : List ℕ} → Both r m d → (first ≡ 0 → back (run src) ≡ src) → d ≡ outcome r src dst
  comes_back r b u = b.1.1 ∙ outcome_cong r (back (run src)) src dst (λ z. u (first_zero first (second (length mid)) (sym b.0 ∙ z)).0)
