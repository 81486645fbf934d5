-- How the code lays the places of the bytes of a substitution, from the last to the first: in the end each byte's first place.
-- Assumes nothing.
use mathlib.Core.Path.{◌≡◌, sym, ap, ap₂, subst, ◌∙◌}
use mathlib.Core.List.{List, ◌∷◌}
use Prim.Native.Nat.{ℕ, suc, ◌+◌, ◌%◌, ◌<◌, ◌≤◌}
use native.Mathlib.Numerals.{add-one}
use native.Mathlib.Decide.{ℕ_discrete}
use native.Mathlib.Omega.{arith}
use lib.ListN.{length, drop, get_or, set, replicate, length-set, length-replicate, get_or-replicate, drop_of_length-le}
use lib.Seq.{drop-cons, get_or-set_same, get_or-set_other}
use Rattle.forms.specs.Lists.{tabulate}
use Rattle.forms.proofs.Lists.{length_tabulate, get_d_tabulate, tabulated}
use Rattle.field.specs.Substitution.{sub, sub_inv}
use Rattle.field.proofs.Different.{first_hit, first_miss}
use Rattle.substitutions.specs.Inverse.{inverse_bytes}

-- the places from i on are laid; 0 stands for a byte that hasn't come yet
pub record Laid (s : List ℕ) (i : ℕ) (r : List ℕ) : Type 0 where
  pub len : length r ≡ 256
  pub at : (y : ℕ) → y < 256 → get_or r y 0 ≡ (i + sub_inv (drop i s) y) % 256

pub laid_none : (s : List ℕ) → length s ≤ 256 → Laid s 256 (replicate 256 0)
unfolding sub_inv
laid_none s h = record {
  len = length-replicate {A = ℕ} 256 0;
  at = λ y l. get_or-replicate 256 y 0 0 l ∙ sym (ap (λ (t : List ℕ). (256 + sub_inv t y) % 256) (drop_of_length-le s h));
}

pub laid_more : (s : List ℕ) (i j : ℕ) (r : List ℕ) {x : ℕ} → i ≡ j + 1 → j < 256 → j < length s → x ≡ get_or s j 0 → x < 256 → Laid s i r → Laid s j (set r x j)
laid_more s i j r {x} p low h e l a = record {
  len = length-set r x j ∙ a.len;
  at = λ y m. elim (ℕ_discrete x y) [ yes z ↦ here y z | no z ↦ there y m z ] ∙ sym (ap (λ (t : List ℕ). (j + sub_inv t y) % 256) front);
}
  where
    front : drop j s ≡ x ∷ drop i s
    front = drop-cons s j 0 h ∙ ap₂ (λ (v k : ℕ). v ∷ drop k s) (sym e) (sym (p ∙ add-one j))

    here : (y : ℕ) → x ≡ y → get_or (set r x j) y 0 ≡ (j + sub_inv (x ∷ drop i s) y) % 256
    here y z =
        ap (λ (k : ℕ). get_or (set r x j) k 0) (sym z)
        ∙ get_or-set_same r x j 0 (omega (arith, a.len))
        ∙ sym (ap (λ (k : ℕ). (j + k) % 256) (first_hit x y (drop i s) z) ∙ omega arith)

    there : (y : ℕ) → y < 256 → (x ≡ y → ⊥) → get_or (set r x j) y 0 ≡ (j + sub_inv (x ∷ drop i s) y) % 256
    there y m z =
        let on : j + suc (sub_inv (drop i s) y) ≡ i + sub_inv (drop i s) y = omega (arith, p) in
        get_or-set_other r x y j 0 (λ w. z (sym w)) ∙ a.at y m ∙ sym (ap (λ (k : ℕ). (j + k) % 256) (first_miss x y (drop i s) z) ∙ ap (λ (k : ℕ). k % 256) on)

-- the entries of a substitution as the code reads them
pub entries : List ℕ → List ℕ
entries s = tabulate 256 (sub s)

pub entries_length : (s : List ℕ) → length (entries s) ≡ 256
unfolding entries
entries_length s = length_tabulate 256 (sub s)

pub entry_read : (s : List ℕ) (j : ℕ) {x : ℕ} → j < 256 → x ≡ get_or s j 0 → x ≡ get_or (entries s) j 0
unfolding entries sub
entry_read s j l e = e ∙ sym (get_d_tabulate 256 (sub s) 0 j l)

pub laid_all : (s r : List ℕ) (i : ℕ) → i ≡ 0 → Laid (entries s) i r → r ≡ inverse_bytes s
unfolding inverse_bytes entries
laid_all s r i e a =
    let b : Laid (entries s) 0 r = subst (λ (i : ℕ). Laid (entries s) i r) e a in
    tabulated 256 (λ y. sub_inv (entries s) y % 256) 0 r b.len (λ y l. b.at y l ∙ ap (λ (k : ℕ). k % 256) (none (sub_inv (entries s) y)))
  where
    none : (x : ℕ) → 0 + x ≡ x
    none x = omega arith
