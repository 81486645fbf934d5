-- Laws of checks in their order, and of what a refusal leaves.
-- Assumes nothing.
use mathlib.Core.Path.{◌≡◌, refl}
use mathlib.Core.Bool.{Bool, true, false, false≢true}
use mathlib.Core.Logic.{inl, inr, ◌↔◌}
use mathlib.Core.List.{List}
use Prim.Native.Nat.{ℕ, zero, suc}
use native.Mathlib.Omega.{arith}
use Rattle.forms.specs.Refusals.{unless, Unless, outcome}

-- a result matters only where the number is 0
pub outcome_cong : (r : ℕ) (x y old : List ℕ) → (r ≡ 0 → x ≡ y) → outcome r x old ≡ outcome r y old
outcome_cong zero x y old h = h refl
outcome_cong (suc r) x y old h = refl

pub refused_keeps : (r : ℕ) (x old : List ℕ) → (r ≡ 0 → ⊥) → old ≡ outcome r x old
refused_keeps zero x old h = absurd (h refl)
refused_keeps (suc r) x old h = refl

-- a check with a number passes, and so do those after it
pub unless_zero : (b : Bool) (k r : ℕ) → unless b (suc k) r ≡ 0 → (b ≡ true) × (r ≡ 0)
unless_zero true k r e = (refl, e)
unless_zero false k r e = let z : ⊥ = omega arith in absurd z

-- ---- checks in plain terms

-- a number that a check gives: its own exactly where what it asks for fails, else what the further checks say
pub unless_plain : {holds further : Type 0} {a : ℕ} (b : Bool) (number r : ℕ) → a ≡ unless b number r → ((b ≡ true) ↔ holds) → (a ≡ r → further)
    → Unless holds (a ≡ number) further
unless_plain true number r e h f = inr (h.0 refl, f e)
unless_plain false number r e h f = inl (λ c. false≢true (h.1 c), e)

-- other words for what a check says and for what follows
pub unless_map : {holds otherwise further otherwise' further' : Type 0} → (otherwise → otherwise') → (further → further') → Unless holds otherwise further
    → Unless holds otherwise' further'
unless_map f g (inl u) = inl (u.0, f u.1)
unless_map f g (inr u) = inr (u.0, g u.1)

-- what holds is asked for again
pub unless_held : {holds otherwise further : Type 0} → holds → Unless holds otherwise further → further
unless_held h (inl u) = absurd (u.0 h)
unless_held h (inr u) = u.1

-- the number is 0 exactly where all that is asked for holds: by a first check and what the further ones come to, by one, three or four checks
module _ {r : ℕ} where
  unless_first : {holds further rest : Type 0} {i : ℕ} → Unless holds (r ≡ suc i) further → (further → ((r ≡ 0) ↔ rest)) → (r ≡ 0) ↔ (holds × rest)
  unless_first (inl u) f = (λ z. let e : ⊥ = omega (arith, u.1) in absurd e, λ h. absurd (u.0 h.0))
  unless_first (inr u) f = (λ z. (u.0, (f u.1).0 z), λ h. (f u.1).1 h.1)

  pub unless_one : {a : Type 0} {i : ℕ} → Unless a (r ≡ suc i) (r ≡ 0) → (r ≡ 0) ↔ a
  unless_one (inl u) = (λ z. let e : ⊥ = omega (arith, u.1) in absurd e, λ h. absurd (u.0 h))
  unless_one (inr u) = (λ z. u.0, λ h. u.1)

  pub unless_three : {a b c : Type 0} {i j k : ℕ} → Unless a (r ≡ suc i) (Unless b (r ≡ suc j) (Unless c (r ≡ suc k) (r ≡ 0))) → (r ≡ 0) ↔ (a × b × c)
  unless_three u =
      let t = unless_first u (λ u. unless_first u unless_one) in
      (λ z. let h = t.0 z in (h.0, h.1.0, h.1.1), λ h. t.1 (h.0, (h.1, h.2)))

  pub unless_four : {a b c d : Type 0} {i j k l : ℕ}
      → Unless a (r ≡ suc i) (Unless b (r ≡ suc j) (Unless c (r ≡ suc k) (Unless d (r ≡ suc l) (r ≡ 0)))) → (r ≡ 0) ↔ (a × b × c × d)
  unless_four u =
      let t = unless_first u unless_three in
      (λ z. let h = t.0 z in (h.0, h.1.0, h.1.1, h.1.2), λ h. t.1 (h.0, (h.1, h.2, h.3)))
