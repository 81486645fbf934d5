-- A multiple of a polynomial of degree d, if it isn't 0, has degree d or more. So a remainder by such a polynomial, of degree below d, is the
-- only one. The polynomial is 2^d + low, and n bits of it are multiplied by.
-- Assumes nothing.
use mathlib.Core.Path.{◌≡◌, refl, sym, ap, ◌∙◌, subst}
use Prim.Native.Nat.{ℕ, zero, suc, ◌+◌, ◌*◌, ◌/◌, ◌%◌, ◌^◌, ◌≤◌, ◌<◌}
use native.Mathlib.Nat.{mod-lt, mul-one, one-mul, zero-mul, mul_assoc, add-mul, add_comm, pow-suc, two-pow-succ}
use native.Mathlib.Numerals.{add-one}
use native.Mathlib.Omega.{arith}
use lib.Arith.{lt-one}
use lib.Bits.{bit_xor, xor_zero_l, xor_lt, xor_shifted}
use lib.Pow.{pow_pos, pow_mono, pow-add, split, shr_lt, shl_lt}
use Rattle.forms.proofs.Xor.{Digit, off, on, digit, xors, xor_zero, additive_zero}
use Rattle.field.specs.Field.{poly_mul}
use Rattle.field.proofs.Remainder.{poly_xor, poly_double}

-- every number has a power of two above it
above : (q : ℕ) → q < 2 ^ q
above zero = pow_pos 0
above (suc q) = omega (arith, above q, two-pow-succ q)

module _ (n d low : ℕ) (small : low < 2 ^ d) (once : poly_mul n 1 (2 ^ d + low) ≡ 2 ^ d + low) where
  multiple : ℕ → ℕ
  multiple q = poly_mul n q (2 ^ d + low)

  none : multiple 0 ≡ 0
  unfolding multiple
  none = additive_zero (λ q. poly_mul n q (2 ^ d + low)) (poly_xor n (2 ^ d + low))

  at_power : (k : ℕ) → multiple (2 ^ k) ≡ (2 ^ d + low) * 2 ^ k
  unfolding multiple
  at_power zero = once ∙ sym (mul-one (2 ^ d + low))
  at_power (suc k) =
      ap (λ (x : ℕ). poly_mul n x (2 ^ d + low)) (pow-suc 2 k) ∙ poly_double n (2 ^ k) (2 ^ d + low) ∙ ap (λ (x : ℕ). x * 2) (at_power k)
      ∙ mul_assoc (2 ^ d + low) (2 ^ k) 2 ∙ ap (λ (x : ℕ). (2 ^ d + low) * x) (sym (pow-suc 2 k))

  -- what is left of a multiple below its highest term, which is of degree k + d
  below : ℕ → ℕ → ℕ
  below k r = bit_xor (low * 2 ^ k) (multiple r)

  highest : (k r : ℕ) → multiple r < 2 ^ (d + k) → (multiple (bit_xor (1 * 2 ^ k) r) ≡ 2 ^ (d + k) + below k r) × (below k r < 2 ^ (d + k))
  unfolding multiple below
  highest k r h =
      let s : low * 2 ^ k < 2 ^ (d + k) = shl_lt d k small in
      let b : bit_xor (low * 2 ^ k) (multiple r) < 2 ^ (d + k) = xor_lt (d + k) (low * 2 ^ k) (multiple r) s h in
      let up : (2 ^ d + low) * 2 ^ k ≡ bit_xor (1 * 2 ^ (d + k)) (low * 2 ^ k) =
      add-mul (2 ^ d) low (2 ^ k) ∙ ap (λ (x : ℕ). x + low * 2 ^ k) (sym (pow-add 2 d k) ∙ sym (one-mul (2 ^ (d + k)))) ∙ sym (xor_shifted 1 (d + k) (low * 2 ^ k) s) in (
        poly_xor n (2 ^ d + low) (1 * 2 ^ k) r
            ∙ ap (λ (x : ℕ). bit_xor x (multiple r)) (ap multiple (one-mul (2 ^ k)) ∙ at_power k ∙ up)
            ∙ sorted (1 * 2 ^ (d + k)) (low * 2 ^ k) (multiple r)
            ∙ xor_shifted 1 (d + k) (bit_xor (low * 2 ^ k) (multiple r)) b
            ∙ ap (λ (x : ℕ). x + bit_xor (low * 2 ^ k) (multiple r)) (one-mul (2 ^ (d + k))),
        b,
      )
    where
      sorted : (x y z : ℕ) → bit_xor (bit_xor x y) z ≡ bit_xor x (bit_xor y z)
      sorted x y z = simp xors

  degrees : (k q : ℕ) → q < 2 ^ k → (multiple q < 2 ^ (d + k)) × ((q ≡ 0 → ⊥) → 2 ^ d ≤ multiple q)
  degrees zero q h = (rw (lt-one h, none) (pow_pos (d + 0)), λ f. absurd (f (lt-one h)))
  degrees (suc k) q h = go (λ x. degrees k x) (digit (q / 2 ^ k) (shr_lt 1 k (rw (add_comm 1 k, add-one) h))) refl
    where
      r : ℕ
      r = q % 2 ^ k

      under : r < 2 ^ k
      under = mod-lt q (pow_pos k)

      parts : q ≡ bit_xor (q / 2 ^ k * 2 ^ k) r
      parts = sym (xor_shifted (q / 2 ^ k) k r under ∙ split q k)

      wider : 2 ^ (d + suc k) ≡ 2 ^ (d + k) + 2 ^ (d + k)
      wider = let e : d + suc k ≡ suc (d + k) = omega arith in ap (λ (x : ℕ). 2 ^ x) e ∙ two-pow-succ (d + k)

      go : ((x : ℕ) → x < 2 ^ k → (multiple x < 2 ^ (d + k)) × ((x ≡ 0 → ⊥) → 2 ^ d ≤ multiple x)) → {c : ℕ} → Digit c → q / 2 ^ k ≡ c
          → (multiple q < 2 ^ (d + suc k)) × ((q ≡ 0 → ⊥) → 2 ^ d ≤ multiple q)
      go ih off e =
          let same : q ≡ r = parts ∙ ap (λ (x : ℕ). bit_xor x r) (ap (λ (x : ℕ). x * 2 ^ k) e ∙ zero-mul (2 ^ k)) ∙ xor_zero_l r in
          let lower = ih q (subst (λ (x : ℕ). x < 2 ^ k) (sym same) under) in
          (omega (arith, lower.0, wider), lower.1)
      go ih on e =
          let top = highest k r (ih r under).0 in
          let is : multiple q ≡ 2 ^ (d + k) + below k r = ap multiple (parts ∙ ap (λ (x : ℕ). bit_xor (x * 2 ^ k) r) e) ∙ top.0 in
          let low-top : 2 ^ d ≤ 2 ^ (d + k) = pow_mono (omega arith) in
          (omega (arith, is, wider, top.1), λ f. omega (arith, is, low-top))

  -- two remainders of one polynomial are one
  pub remainder_unique : (q r p s : ℕ) → r < 2 ^ d → s < 2 ^ d → bit_xor (poly_mul n q (2 ^ d + low)) r ≡ bit_xor (poly_mul n p (2 ^ d + low)) s → r ≡ s
  unfolding multiple
  remainder_unique q r p s hr hs e = xor_zero r s (equal (bit_xor q p) refl)
    where
      across : (a b u v : ℕ) → bit_xor a b ≡ bit_xor u v → bit_xor a u ≡ bit_xor b v
      across a b u v h = left a b u ∙ ap (λ (x : ℕ). bit_xor (bit_xor x b) u) h ∙ right u v b
        where
          left : (a b u : ℕ) → bit_xor a u ≡ bit_xor (bit_xor (bit_xor a b) b) u
          left a b u = simp xors

          right : (u v b : ℕ) → bit_xor (bit_xor (bit_xor u v) b) u ≡ bit_xor b v
          right u v b = simp xors

      -- what the two multiples differ in, the remainders do
      differ : multiple (bit_xor q p) ≡ bit_xor r s
      differ = poly_xor n (2 ^ d + low) q p ∙ across (multiple q) r (multiple p) s e

      equal : (x : ℕ) → bit_xor q p ≡ x → bit_xor r s ≡ 0
      equal zero z = sym differ ∙ ap multiple z ∙ none
      equal (suc x) z =
          let w : 2 ^ d ≤ multiple (bit_xor q p) = (degrees (bit_xor q p) (bit_xor q p) (above (bit_xor q p))).1 (λ f. omega arith) in
          let v : bit_xor r s < 2 ^ d = xor_lt d r s hr hs in
          let f : ⊥ = omega (arith, differ) in
          absurd f
