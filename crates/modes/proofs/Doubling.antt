-- Doubling of a block: its highest bit as the code tests it, and that it is multiplication by x in GF(2^128).
-- Assumes nothing.
use mathlib.Core.Path.{◌≡◌, refl, sym, ap, ap₂, ◌∙◌, subst}
use mathlib.Core.Bool.{Bool, true, false}
use mathlib.Core.List.{List, [], ◌∷◌}
use Prim.Native.Nat.{ℕ, suc, ◌+◌, ◌-◌, ◌*◌, ◌%◌, ◌^◌, ◌≤◌, ◌<◌}
use native.Mathlib.Nat.{mod-lt, mod-eq_of_lt, mul_comm, zero-mul, one-mul, two-pow-succ, mul-le-mul_right}
use native.Mathlib.Omega.{arith}
use borrow.Author.Tests.{ltb-true, ltb-false, lt-ltb, le-ltb}
use lib.Arith.{digits_lt, digits_mod}
use lib.Bits.{bit_xor, xor_mod, xor_shifted, xor_zero_l}
use lib.Dec.{ltb, lit<}
use lib.ListN.{length, get_or}
use lib.Pow.{pow_pos}
use Rattle.forms.specs.Lists.{tabulate, when, xor_sum}
use Rattle.forms.specs.Words.{byte, join}
use Rattle.forms.specs.Strings.{xor_bytes, number, string}
use Rattle.forms.proofs.Xor.{xors}
use Rattle.forms.proofs.Bytes.{Bytes}
use Rattle.forms.proofs.Strings.{number_first, number_lt, number_string, string_xor}
use Rattle.field.specs.Field.{poly_mul}
use Rattle.field.proofs.Degree.{remainder_unique}
use Rattle.modes.specs.Cmac.{doubled}
use Rattle.modes.specs.Gf128.{modulus, Remainder}

-- ---- the highest bit

-- of the number is that of the first byte
module _ (x : ℕ) (xs : List ℕ) (l : length xs ≡ 15) (h : Bytes (x ∷ xs)) where
  tail_lt : number xs < 2 ^ 120
  tail_lt = subst (λ (k : ℕ). number xs < 2 ^ (8 * k)) l (number_lt xs (λ i. h (suc i)))

  first : number (x ∷ xs) ≡ x * 2 ^ 120 + number xs
  first = number_first x xs ∙ ap (λ (k : ℕ). x * 2 ^ (8 * k) + number xs) l

  first_low : x < 128 → number (x ∷ xs) < 2 ^ 127
  first_low k = subst (λ (v : ℕ). v < 2 ^ 127) (sym first) (digits_lt k tail_lt)

  first_high : 128 ≤ x → 2 ^ 127 ≤ number (x ∷ xs)
  first_high k = subst (λ (v : ℕ). 2 ^ 127 ≤ v) (sym first) (more (x * 2 ^ 120) (number xs) (mul-le-mul_right (2 ^ 120) k))
    where
      more : {p : ℕ} (a b : ℕ) → p ≤ a → p ≤ a + b
      more a b i = omega arith

pub doubled_low : (x : List ℕ) → length x ≡ 16 → Bytes x → get_or x 0 0 < 128 → doubled x ≡ string 16 (2 * number x)
unfolding doubled
doubled_low [] l h k = let f : ⊥ = omega arith in absurd f
doubled_low (x ∷ xs) l h k = rw (lt-ltb (number (x ∷ xs)) (2 ^ 127) (first_low x xs (omega arith) h k))

pub doubled_high : (x : List ℕ) → length x ≡ 16 → Bytes x → 128 ≤ get_or x 0 0 → doubled x ≡ xor_bytes (string 16 (2 * number x)) (string 16 0x87)
unfolding doubled
doubled_high [] l h k = let f : ⊥ = omega arith in absurd f
doubled_high (x ∷ xs) l h k = rw (le-ltb (number (x ∷ xs)) (2 ^ 127) (first_high x xs (omega arith) h k))

-- ---- multiplication by x

-- a polynomial below x^(k + 1), times x, modulo 2^(k + 1) + c, k + 1 being its degree
module _ (k v c : ℕ) (h : v < 2 ^ suc k) (small : c < 2 ^ suc k) where
  below : v < 2 ^ k → 2 * v % 2 ^ suc k ≡ 2 * v
  below l = mod-eq_of_lt (omega (arith, two-pow-succ k))

  above : 2 ^ k ≤ v → 2 * v ≡ 1 * 2 ^ suc k + 2 * v % 2 ^ suc k
  above l =
      let r : ℕ = 2 * v - 2 ^ suc k in
      let e : 2 * v ≡ 1 * 2 ^ suc k + r = omega (arith, two-pow-succ k, one-mul (2 ^ suc k)) in
      let s : r < 2 ^ suc k = omega (arith, two-pow-succ k) in
      e ∙ ap (λ (x : ℕ). 1 * 2 ^ suc k + x) (sym (ap (λ (x : ℕ). x % 2 ^ suc k) e ∙ digits_mod 1 s))

  reduced : 2 ^ k ≤ v → 2 * v ≡ bit_xor (2 ^ suc k + c) (bit_xor (2 * v) c % 2 ^ suc k)
  reduced l =
      let m : ℕ = 2 ^ suc k in
      let w : ℕ = 2 * v % m in
      above l
      ∙ sym (ap₂ bit_xor (ap (λ (x : ℕ). x + c) (sym (one-mul m)) ∙ sym (xor_shifted 1 (suc k) c small)) (xor_mod (2 * v) c (suc k) ∙ ap (bit_xor w) (mod-eq_of_lt small))
      ∙ sorted (1 * m) c w
      ∙ xor_shifted 1 (suc k) w (mod-lt (2 * v) (pow_pos (suc k))))
    where
      sorted : (x y z : ℕ) → bit_xor (bit_xor x y) (bit_xor z y) ≡ bit_xor x z
      sorted x y z = simp xors

-- the polynomials' product by x
by_x : (v : ℕ) → poly_mul 2 v 2 ≡ 2 * v
unfolding poly_mul xor_sum
by_x v = ap₂ bit_xor (ap (bit_xor 0) (zero-mul (v * 2 ^ 0))) (one-mul (v * 2 ^ 1)) ∙ xor_zero_l (v * 2 ^ 1) ∙ mul_comm v 2

no_multiple : poly_mul 129 0 modulus ≡ 0
unfolding poly_mul xor_sum modulus
no_multiple = refl

one_multiple : poly_mul 129 1 modulus ≡ 2 ^ 128 + 0x87
unfolding poly_mul xor_sum modulus
one_multiple = refl

-- the doubled block is the remainder of x times the block
pub doubled_remainder : (x : List ℕ) → length x ≡ 16 → Bytes x → Remainder (poly_mul 2 (number x) 2) (number (doubled x))
unfolding doubled
doubled_remainder x l h = either (ltb (number x) (2 ^ 127)) (ltb-true (number x) (2 ^ 127)) (ltb-false (number x) (2 ^ 127))
  where
    v : ℕ
    v = number x

    inside : v < 2 ^ 128
    inside = subst (λ (k : ℕ). number x < 2 ^ (8 * k)) l (number_lt x h)

    -- a string's number, which has 128 bits
    part : (w : ℕ) → number (string 16 w) < 2 ^ 128
    part w = subst (λ (y : ℕ). y < 2 ^ 128) (sym (number_string 16 w)) (mod-lt w (pow_pos 128))

    either : (b : Bool) → (b ≡ true → v < 2 ^ 127) → (b ≡ false → 2 ^ 127 ≤ v)
        → Remainder (poly_mul 2 v 2) (number (when b (string 16 (2 * v)) (xor_bytes (string 16 (2 * v)) (string 16 0x87))))
    either true p q = record {
      quotient = 0;
      small = part (2 * v);
      rest = by_x v ∙ sym (ap₂ bit_xor no_multiple (number_string 16 (2 * v) ∙ below 127 v 0x87 inside (lit< tt) (p refl)) ∙ xor_zero_l (2 * v));
    }
    either false p q = record {
      quotient = 1;
      small = subst (λ (y : List ℕ). number y < 2 ^ 128) (sym (string_xor 16 (2 * v) 0x87)) (part (bit_xor (2 * v) 0x87));
      rest =
          by_x v ∙ reduced 127 v 0x87 inside (lit< tt) (q refl)
          ∙ sym (ap₂ bit_xor one_multiple (ap number (string_xor 16 (2 * v) 0x87) ∙ number_string 16 (bit_xor (2 * v) 0x87)));
    }

-- and the only one
pub only_remainder : (a r s : ℕ) → Remainder a r → Remainder a s → r ≡ s
unfolding modulus
only_remainder a r s p q = remainder_unique 129 128 0x87 (lit< tt) one_multiple p.quotient r q.quotient s p.small q.small (sym p.rest ∙ q.rest)

-- ---- SP 800-38B, appendix D.1 to D.3: L, K1 and K2 of AES with keys of 128, 192 and 256 bits

-- L gives K1, and K1 gives K2
abbrev pub Gives : ℕ → ℕ → ℕ → Type 0
Gives l k1 k2 = (doubled (string 16 l) ≡ string 16 k1) × (doubled (string 16 k1) ≡ string 16 k2)

pub examples :
    Gives 0x7df76b0c1ab899b33e42f047b91b546f 0xfbeed618357133667c85e08f7236a8de 0xf7ddac306ae266ccf90bc11ee46d513b
    × Gives 0x22452d8e49a8a5939f7321ceea6d514b 0x448a5b1c93514b273ee6439dd4daa296 0x8914b63926a2964e7dcc873ba9b5452c
    × Gives 0xe568f68194cf76d6174d4cc04310a854 0xcad1ed03299eedac2e9a99808621502f 0x95a3da06533ddb585d3533010c42a0d9
unfolding doubled number string xor_bytes join byte tabulate
examples = ((refl, refl), (refl, refl), (refl, refl))
