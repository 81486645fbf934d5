-- An array that `from_fn` makes, of a closure that stays as it is and answers by the place alone.
-- Assumes nothing.
use mathlib.Core.Path.{◌≡◌, sym, ap, ◌∙◌, subst}
use mathlib.Core.List.{List}
use Prim.Native.Nat.{ℕ, zero, suc, ◌+◌, ◌<◌}
use native.Mathlib.Nat.{add-zero, zero-add}
use native.Mathlib.Omega.{arith}
use lib.ListN.{get_or}
use denote.Param.Members.{Mut}
use Rattle.std.specs.Fn.{Called}
use Rattle.std.specs.Array.{IsFromFnResult, IsFromFnResultFrom}
use Rattle.forms.specs.Lists.{tabulate}
use Rattle.forms.proofs.Lists.{tabulated}

module _ {F B : Type 0} (g : Mut F (ℕ × Unit {0}) B) (f : F) (h : ℕ → B) (same : (j : ℕ) (y : B) (q : F) → Called g f (j, tt) y q → (q ≡ f) × (y ≡ h j)) (ys : List B) (d : B) where
  made_at : (n i k : ℕ) → IsFromFnResultFrom g f ys i n → k < n → get_or ys (i + k) d ≡ h (i + k)
  made_at zero i k r l = let z : ⊥ = omega arith in absurd z
  made_at (suc n) i zero r l =
      ap (λ (m : ℕ). get_or ys m d) (add-zero i) ∙ r.2.1 d ∙ (same i r.1 r.0 r.3).1 ∙ ap h (sym (add-zero i))
  made_at (suc n) i (suc k) r l =
      let e : i + 1 + k ≡ i + suc k = omega arith in
      ap (λ (m : ℕ). get_or ys m d) (sym e) ∙ made_at n (i + 1) k (subst (λ (q : F). IsFromFnResultFrom g q ys (i + 1) n) (same i r.1 r.0 r.3).0 r.4) (omega arith) ∙ ap h e

  pub made : (n : ℕ) → IsFromFnResult g f ys n → ys ≡ tabulate n h
  made n r = tabulated n h d ys r.long (λ k l. ap (λ (m : ℕ). get_or ys m d) (sym (zero-add k)) ∙ made_at n 0 k r.each l ∙ ap h (zero-add k))
