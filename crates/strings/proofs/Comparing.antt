-- Laws of two strings compared byte by byte, as the loop does it: what differed so far is gathered by OR.
-- Assumes nothing.
use mathlib.Core.Path.{◌≡◌, refl, sym, ap, ◌∙◌}
use mathlib.Core.Bool.{Bool, true, false, ◌&&◌}
use mathlib.Core.List.{List, [], ◌∷◌}
use Prim.Native.Nat.{ℕ, zero, suc}
use native.Mathlib.Omega.{arith}
use borrow.Author.Tests.{eq-eqb, ne_eqb, eqb-true, eqb-false}
use lib.Bits.{bit_or, bit_xor, or_zero_l, or_add_and, and_le_r, xor_self}
use lib.Dec.{eqb}
use lib.ListN.{length}
use Rattle.forms.specs.Strings.{same}
use Rattle.forms.proofs.Booleans.{and_assoc, and_true}
use Rattle.forms.proofs.Xor.{xor_zero}
use Rattle.forms.proofs.Strings.{same_eq}

-- strings of two lengths
pub same_not : (a b : List ℕ) → (length a ≡ length b → ⊥) → false ≡ same a b
same_not a b h = go (same a b) refl
  where
    go : (t : Bool) → same a b ≡ t → false ≡ t
    go true e = absurd (h (ap length (same_eq a b e)))
    go false e = refl

-- the XOR of two bytes is 0 if they are the same, and then the OR stays 0
xor_test : (x y : ℕ) → eqb (bit_xor x y) 0 ≡ eqb x y
xor_test x y = go (eqb x y) (eqb-true x y) (eqb-false x y)
  where
    go : (t : Bool) → (t ≡ true → x ≡ y) → (t ≡ false → x ≡ y → ⊥) → eqb (bit_xor x y) 0 ≡ t
    go true e n = eq-eqb (bit_xor x y) 0 (ap (bit_xor x) (sym (e refl)) ∙ xor_self x)
    go false e n = ne_eqb (bit_xor x y) 0 (λ z. n refl (xor_zero x y z))

or_test : (d z : ℕ) → eqb (bit_or d z) 0 ≡ (eqb d 0 && eqb z 0)
or_test zero z = ap (λ (v : ℕ). eqb v 0) (or_zero_l z)
or_test (suc d) z =
    let some : bit_or (suc d) z ≡ 0 → ⊥ = λ e. omega (arith, or_add_and (suc d) z, and_le_r (suc d) z) in
    let more : suc d ≡ 0 → ⊥ = λ e. omega arith in
    ne_eqb (bit_or (suc d) z) 0 some ∙ sym (ap (λ (t : Bool). t && eqb z 0) (ne_eqb (suc d) 0 more))

-- nothing differed before, and what is left is the same
abbrev pub compared : ℕ → List ℕ → List ℕ → Bool
compared d a b = eqb d 0 && same a b

pub compared_next : (d x y : ℕ) (a b : List ℕ) → compared d (x ∷ a) (y ∷ b) ≡ compared (bit_or d (bit_xor x y)) a b
unfolding same
compared_next d x y a b =
    sym (and_assoc (eqb d 0) (eqb x y) (same a b))
    ∙ ap (λ (t : Bool). t && same a b) (sym (or_test d (bit_xor x y) ∙ ap (λ (t : Bool). eqb d 0 && t) (xor_test x y)))

pub compared_all : (d : ℕ) → compared d [] [] ≡ eqb d 0
unfolding same
compared_all d = and_true (eqb d 0)
