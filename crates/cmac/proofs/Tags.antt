-- What the two operations answer, out of the last block of the chain.
-- Assumes nothing.
use mathlib.Core.Path.{◌≡◌, refl, sym, ap, ◌∙◌}
use mathlib.Core.Bool.{Bool, false}
use mathlib.Core.List.{List}
use Prim.Native.Nat.{ℕ, zero, suc, ◌≤◌}
use native.Mathlib.Omega.{arith}
use borrow.Author.Tests.{ne_eqb}
use lib.Dec.{eqb}
use lib.ListN.{length, take}
use Rattle.forms.specs.Refusals.{outcome}
use Rattle.forms.specs.Strings.{same}
use Rattle.labyrinth.specs.Cipher.{Parts, article}
use Rattle.labyrinth.specs.Keys.{E}
use Rattle.labyrinth.specs.Refusals.{under_key}
use Rattle.labyrinth.proofs.Refusals.{under_loaded}
use Rattle.sets.specs.declared.Store.{Store}
use Rattle.sets.specs.Sets.{loaded, parts_in}
use Rattle.sets.proofs.Sets.{loaded_zero, parts_zero}
use Rattle.modes.specs.Cmac.{mac, tag, valid}
use Rattle.modes.specs.Refusals.{cmac_refusal}
use Rattle.modes.proofs.Refusals.{cmac_one}
use Rattle.modes.proofs.Maps.{Keeps}
use Rattle.modes.proofs.Cmac.{made_valid}
use Rattle.cmac.specs.declared.Verified.{Verified}
use Rattle.cmac.specs.Verification.{verification}

module _ (e : List ℕ → List ℕ) (m : List ℕ) where
  -- a refusal is a no
  pub refused_no : (given : List ℕ) (n : ℕ) {r : ℕ} → r ≡ n → (r ≡ 0 → ⊥) → record { number = r; yes = false } ≡ verification e m given n
  unfolding verification
  refused_no given zero p h = absurd (h p)
  refused_no given (suc n) p h = ap (λ (r : ℕ). record { number = r; yes = false }) p

  -- else its first bytes are compared
  pub compared_yes : (given : List ℕ) (n : ℕ) {r : ℕ} {last : List ℕ} {yes : Bool} → r ≡ n → r ≡ 0 → last ≡ mac e m → yes ≡ same (take (length given) last) given
      → record { number = 0; yes = yes } ≡ verification e m given n
  unfolding verification valid tag
  compared_yes given zero p z l y = ap (λ (b : Bool). record { number = 0; yes = b }) (y ∙ ap (λ (x : List ℕ). same (take (length given) x) given) l)
  compared_yes given (suc n) p z l y = let f : ⊥ = omega arith in absurd f

-- a block map matters only where the number is 0
pub verified_under : (e f : List ℕ → List ℕ) (m given : List ℕ) {n k : ℕ} → n ≡ k → (n ≡ 0 → e ≡ f) → verification e m given n ≡ verification f m given k
unfolding verification
verified_under e f m given {n} p h = go n h ∙ ap (verification f m given) p
  where
    go : (n : ℕ) → (n ≡ 0 → e ≡ f) → verification e m given n ≡ verification f m given n
    go zero h = ap (λ (x : List ℕ → List ℕ). verification x m given 0) (h refl)
    go (suc n) h = refl

-- ---- verifying what was made

-- set 0 named: the former answer is the one by the store
pub verified_published : (store : Store) (i n : ℕ) (ws m given : List ℕ) → i ≡ 0
    → verification (E article n ws) m given (cmac_refusal n (length given)) ≡ verification (E (parts_in store i) n ws) m given (under_key n (loaded store i) (cmac_refusal n (length given)))
verified_published store i n ws m given z =
    verified_under (E article n ws) (E (parts_in store i) n ws) m given
    (sym (under_loaded n (loaded store i) (cmac_refusal n (length given)) (cmac_one n (length given)) (loaded_zero store i z)))
    (λ y. ap (λ (p : Parts). E p n ws) (sym (parts_zero store i z)))

pub verification_number : (e : List ℕ → List ℕ) (m given : List ℕ) (n : ℕ) → (verification e m given n).number ≡ n
unfolding verification
verification_number e m given zero = refl
verification_number e m given (suc n) = refl

-- a tag that make left in a buffer, verified at once: yes, unless it was refused
pub made_verified : (e : List ℕ → List ℕ) (m old : List ℕ) (refusal : ℕ → ℕ) {r : ℕ} {given : List ℕ} {v : Verified} → (refusal (length old) ≡ 0 → Keeps 16 e × (length old ≤ 16))
    → r ≡ refusal (length old) → given ≡ outcome r (tag e (length old) m) old → length given ≡ length old → v ≡ verification e m given (refusal (length given))
    → v ≡ record { number = refusal (length old); yes = eqb (refusal (length old)) 0 }
unfolding verification
made_verified e m old refusal {r} {given} {v} keeps p w l q =
    q ∙ ap (λ (k : ℕ). verification e m given (refusal k)) l
    ∙ ap (λ (x : List ℕ). verification e m x (refusal (length old))) (w ∙ ap (λ (k : ℕ). outcome k (tag e (length old) m) old) p)
    ∙ go (refusal (length old)) keeps
  where
    go : (n : ℕ) → (n ≡ 0 → Keeps 16 e × (length old ≤ 16)) → verification e m (outcome n (tag e (length old) m) old) n ≡ record { number = n; yes = eqb n 0 }
    go zero k = let h = k refl in ap (λ (b : Bool). record { number = 0; yes = b }) (made_valid e h.0 (length old) m h.1)
    go (suc n) k = let f : suc n ≡ 0 → ⊥ = λ z. omega arith in ap (λ (b : Bool). record { number = suc n; yes = b }) (sym (ne_eqb (suc n) 0 f))
