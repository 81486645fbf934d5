-- Laws of byte strings: their XOR, the numbers that they are, and their blocks.
-- Assumes nothing.
use mathlib.Core.Path.{◌≡◌, refl, sym, ap, ap₂, ◌∙◌, subst, fun_ext}
use mathlib.Core.Bool.{true, false≢true}
use mathlib.Core.Logic.{⊎_elim}
use mathlib.Core.List.{List, [], ◌∷◌, ◌++◌, append_assoc, append-nil}
use Prim.Native.Nat.{ℕ, zero, suc, ◌+◌, ◌-◌, ◌*◌, ◌/◌, ◌%◌, ◌^◌, ◌≤◌, ◌<◌, min}
use native.Mathlib.Nat.{eq-or-lt_of_le, le_of_suc-le-suc, div-eq_of_lt, mod-eq_of_lt, zero-div, mod-add-mod, suc-add, zero-add, suc-mul, add-mul, zero-mul, mul-le-mul_right, div-mul-le_self, mul_assoc, div-one, div-add-mod', add_comm, add-mul-div_right, zero-min, min-zero, suc-min-suc}
use native.Mathlib.Numerals.{add-one}
use native.Mathlib.Omega.{arith, by_contra}
use lib.Bits.{bit_xor, xor_comm, xor_lt, xor_zero_r}
use lib.Pow.{pow-add, shr-shr}
use lib.ListN.{length, get_or, take, drop, set, replicate, length-append, length-set, length-drop, take-append-drop, drop_of_length-le, get_or-append}
use borrow.Author.Tests.{eq-eqb, eqb-true}
use lib.Dec.{eqb}
use lib.Seq.{ext_get_or, get_or-set_same, get_or-set_other, take_all, take_at, drop_at, get_or_at, take-append-le, drop-append-le, drop-append-add, drop-drop, length-take-le}
use Rattle.forms.specs.Lists.{tabulate}
use Rattle.forms.specs.Words.{byte, join}
use Rattle.forms.specs.Strings.{xor_bytes, number, string, block, same}
use Rattle.forms.specs.Mapped.{map_blocks, each_block}
use Rattle.forms.proofs.Xor.{xors}
use Rattle.forms.proofs.Lists.{length_tabulate, get_d_tabulate, tabulate_cong, tabulated, tabulate_add}
use Rattle.forms.proofs.Words.{byte_lt, byte_xor, byte_join, join_byte, join_cong, join_lt}
use Rattle.forms.proofs.Bytes.{Bytes, tabulate_small, take_bytes, drop_bytes, append_bytes}
use Rattle.forms.proofs.Booleans.{and_both}

-- ---- the XOR of two strings

pub nil_xor_bytes : (ys : List ℕ) → xor_bytes [] ys ≡ []
unfolding xor_bytes
nil_xor_bytes ys = refl

pub xor_bytes_nil : (xs : List ℕ) → xor_bytes xs [] ≡ []
unfolding xor_bytes
xor_bytes_nil [] = refl
xor_bytes_nil (x ∷ xs) = refl

pub xor_bytes_comm : (xs ys : List ℕ) → xor_bytes xs ys ≡ xor_bytes ys xs
unfolding xor_bytes
xor_bytes_comm [] [] = refl
xor_bytes_comm [] (y ∷ ys) = refl
xor_bytes_comm (x ∷ xs) [] = refl
xor_bytes_comm (x ∷ xs) (y ∷ ys) = ap₂ ◌∷◌ (xor_comm x y) (xor_bytes_comm xs ys)

-- as long as the shorter
-- with zeros nothing changes
pub xor_bytes_zeros : (x : List ℕ) → xor_bytes x (replicate (length x) 0) ≡ x
unfolding xor_bytes
xor_bytes_zeros [] = refl
xor_bytes_zeros (a ∷ x) = ap₂ ◌∷◌ (xor_zero_r a) (xor_bytes_zeros x)

pub length_shorter : (xs ys : List ℕ) → length (xor_bytes xs ys) ≡ min (length xs) (length ys)
unfolding xor_bytes
length_shorter [] ys = sym (zero-min (length ys))
length_shorter (x ∷ xs) [] = sym (min-zero (suc (length xs)))
length_shorter (x ∷ xs) (y ∷ ys) = ap suc (length_shorter xs ys) ∙ sym (suc-min-suc (length xs) (length ys))

pub length_xor_bytes : (xs ys : List ℕ) → length xs ≤ length ys → length (xor_bytes xs ys) ≡ length xs
length_xor_bytes xs ys h = omega (arith, length_shorter xs ys)

pub get_or_xor_bytes : (xs ys : List ℕ) (i : ℕ) → i < length xs → i < length ys → get_or (xor_bytes xs ys) i 0 ≡ bit_xor (get_or xs i 0) (get_or ys i 0)
unfolding xor_bytes
get_or_xor_bytes [] ys i h l = let z : ⊥ = omega arith in absurd z
get_or_xor_bytes (x ∷ xs) [] i h l = let z : ⊥ = omega arith in absurd z
get_or_xor_bytes (x ∷ xs) (y ∷ ys) zero h l = refl
get_or_xor_bytes (x ∷ xs) (y ∷ ys) (suc i) h l = get_or_xor_bytes xs ys i (omega arith) (omega arith)

pub bytes_xor_bytes : (xs ys : List ℕ) → Bytes xs → Bytes ys → Bytes (xor_bytes xs ys)
unfolding xor_bytes
bytes_xor_bytes [] ys h k i = omega arith
bytes_xor_bytes (x ∷ xs) [] h k i = omega arith
bytes_xor_bytes (x ∷ xs) (y ∷ ys) h k zero = xor_lt 8 x y (h 0) (k 0)
bytes_xor_bytes (x ∷ xs) (y ∷ ys) h k (suc i) = bytes_xor_bytes xs ys (λ j. h (suc j)) (λ j. k (suc j)) i

-- the same string twice
pub xor_bytes_undo : (xs ys : List ℕ) → length xs ≤ length ys → xor_bytes (xor_bytes xs ys) ys ≡ xs
unfolding xor_bytes
xor_bytes_undo [] ys h = refl
xor_bytes_undo (x ∷ xs) [] h = let z : ⊥ = omega arith in absurd z
xor_bytes_undo (x ∷ xs) (y ∷ ys) h = ap₂ ◌∷◌ (again x y) (xor_bytes_undo xs ys (omega arith))
  where
    again : (a b : ℕ) → bit_xor (bit_xor a b) b ≡ a
    again a b = simp xors

-- with a string in two parts
pub xor_bytes_append : (s k t : List ℕ) → xor_bytes s (k ++ t) ≡ xor_bytes (take (length k) s) k ++ xor_bytes (drop (length k) s) t
unfolding xor_bytes
xor_bytes_append s [] t = refl
xor_bytes_append [] (y ∷ k) t = refl
xor_bytes_append (x ∷ s) (y ∷ k) t = ap (◌∷◌ (bit_xor x y)) (xor_bytes_append s k t)

-- the same part of both
pub take_xor_bytes : (k : ℕ) (xs ys : List ℕ) → take k (xor_bytes xs ys) ≡ xor_bytes (take k xs) (take k ys)
unfolding xor_bytes
take_xor_bytes zero xs ys = refl
take_xor_bytes (suc k) [] ys = refl
take_xor_bytes (suc k) (x ∷ xs) [] = refl
take_xor_bytes (suc k) (x ∷ xs) (y ∷ ys) = ap (◌∷◌ (bit_xor x y)) (take_xor_bytes k xs ys)

pub drop_xor_bytes : (k : ℕ) (xs ys : List ℕ) → drop k (xor_bytes xs ys) ≡ xor_bytes (drop k xs) (drop k ys)
unfolding xor_bytes
drop_xor_bytes zero xs ys = refl
drop_xor_bytes (suc k) [] ys = refl
drop_xor_bytes (suc k) (x ∷ xs) [] = sym (xor_bytes_nil (drop k xs))
drop_xor_bytes (suc k) (x ∷ xs) (y ∷ ys) = drop_xor_bytes k xs ys

pub xor_bytes_parts : (k : ℕ) (xs ys : List ℕ) → xor_bytes xs ys ≡ xor_bytes (take k xs) (take k ys) ++ xor_bytes (drop k xs) (drop k ys)
xor_bytes_parts k xs ys = sym (take-append-drop k (xor_bytes xs ys)) ∙ ap₂ ◌++◌ (take_xor_bytes k xs ys) (drop_xor_bytes k xs ys)

-- ---- numbers and strings

-- 2 ^ (8 (n + 1)), one byte more
pow_byte : (n : ℕ) → 2 ^ (8 * suc n) ≡ 2 ^ (8 * n) * 256
pow_byte n = let e : 8 * suc n ≡ 8 * n + 8 = omega arith in ap (λ (k : ℕ). 2 ^ k) e ∙ pow-add 2 (8 * n) 8

-- a number with its least byte apart
join_least : (n : ℕ) (b : ℕ → ℕ) → join (suc n) b ≡ join n (λ i. b (suc i)) * 256 + b 0
unfolding join
join_least zero b = omega arith
join_least (suc n) b =
    ap₂ (λ (x y : ℕ). b (suc n) * x + y) (pow_byte n) (join_least n b)
    ∙ ap (λ (x : ℕ). x + (join n (λ i. b (suc i)) * 256 + b 0)) (sym (mul_assoc (b (suc n)) (2 ^ (8 * n)) 256))
    ∙ omega arith

-- the bytes above the least
byte_up : (v k : ℕ) → byte v (suc k) ≡ byte (v / 256) k
unfolding byte
byte_up v k = let e : 8 * suc k ≡ 8 + 8 * k = omega arith in ap (λ (x : ℕ). x % 256) (ap (λ (x : ℕ). v / 2 ^ x) e ∙ sym (shr-shr v 8 (8 * k)))

-- one byte more at the end
pub number_snoc : (xs : List ℕ) (x : ℕ) → number (xs ++ x ∷ []) ≡ number xs * 256 + x
unfolding number
number_snoc xs x =
    let n : ℕ = length xs in
    let len : length (xs ++ x ∷ []) ≡ suc n = length-append xs (x ∷ []) ∙ add-one n in
    ap (λ (k : ℕ). join k (λ i. get_or (xs ++ x ∷ []) (k - 1 - i) 0)) len
    ∙ join_least n (λ i. get_or (xs ++ x ∷ []) (suc n - 1 - i) 0)
    ∙ ap₂ (λ (a b : ℕ). a * 256 + b)
    (join_cong n (λ i. get_or (xs ++ x ∷ []) (suc n - 1 - suc i) 0) (λ i. get_or xs (n - 1 - i) 0) (λ i l.
    let e : suc n - 1 - suc i ≡ n - 1 - i = omega arith in
    ap (λ (k : ℕ). get_or (xs ++ x ∷ []) k 0) e ∙ get_or-append xs (x ∷ []) 0 (n - 1 - i) (omega arith)))
    (get_or_at xs x [] 0 (suc n - 1 - 0) (omega arith))

pub length_string : (z v : ℕ) → length (string z v) ≡ z
unfolding string
length_string z v = length_tabulate z (λ i. byte v (z - 1 - i))

pub bytes_string : (z v : ℕ) → Bytes (string z v)
unfolding string
bytes_string z v = tabulate_small z (λ i. byte v (z - 1 - i)) (2 ^ 8) (omega arith) (λ i. byte_lt v (z - 1 - i))

-- the byte of weight 1
byte_least : (v k : ℕ) → k ≡ 0 → byte v k ≡ v % 256
unfolding byte
byte_least v k e = ap (λ (x : ℕ). v / 2 ^ (8 * x) % 256) e ∙ ap (λ (x : ℕ). x % 256) (div-one v)

-- the string of one byte more ends in the least byte
pub string_suc : (z v : ℕ) → string (suc z) v ≡ string z (v / 256) ++ (v % 256 ∷ [])
unfolding string tabulate
string_suc z v =
    let f : ℕ → ℕ = λ i. byte v (suc z - 1 - i) in
    ap (λ (k : ℕ). tabulate k f) (sym (add-one z)) ∙ tabulate_add z 1 f
    ∙ ap₂ ◌++◌ (tabulate_cong z f (λ i. byte (v / 256) (z - 1 - i)) (λ i l. let e : suc z - 1 - i ≡ suc (z - 1 - i) = omega arith in ap (byte v) e ∙ byte_up v (z - 1 - i)))
    (ap (λ (x : ℕ). x ∷ []) (byte_least v (suc z - 1 - (z + 0)) (omega arith)))

-- a string's number, and a number's string
pub number_string : (z v : ℕ) → number (string z v) ≡ v % 2 ^ (8 * z)
unfolding number string
number_string z v =
    ap (λ (k : ℕ). join k (λ i. get_or (string z v) (k - 1 - i) 0)) (length_string z v)
    ∙ join_cong z (λ i. get_or (string z v) (z - 1 - i) 0) (byte v) (λ i l.
    let e : z - 1 - (z - 1 - i) ≡ i = omega arith in
    get_d_tabulate z (λ i. byte v (z - 1 - i)) 0 (z - 1 - i) (omega arith) ∙ ap (byte v) e)
    ∙ join_byte z v

pub string_number : (z : ℕ) (c : List ℕ) → length c ≡ z → Bytes c → string z (number c) ≡ c
unfolding number string
string_number z c e h =
    sym (tabulated z (λ i. byte (number c) (z - 1 - i)) 0 c e (λ i l.
    let p : z - 1 - (z - 1 - i) ≡ i = omega arith in
    sym (ap (λ (k : ℕ). byte (join k (λ i. get_or c (k - 1 - i) 0)) (z - 1 - i)) e
    ∙ byte_join z (λ i. get_or c (z - 1 - i) 0) (λ i. h (z - 1 - i)) (z - 1 - i) (omega arith)
    ∙ ap (λ (k : ℕ). get_or c k 0) p)))

-- a string is its number's modulo 2 ^ (8z)
pub string_mod : (z v : ℕ) → string z (v % 2 ^ (8 * z)) ≡ string z v
string_mod z v = ap (string z) (sym (number_string z v)) ∙ string_number z (string z v) (length_string z v) (bytes_string z v)

-- a counter goes on from its own string
pub string_add : (z v a : ℕ) → string z (number (string z v) + a) ≡ string z (v + a)
string_add z v a =
    ap (λ (x : ℕ). string z (x + a)) (number_string z v)
    ∙ sym (string_mod z (v % 2 ^ (8 * z) + a))
    ∙ ap (string z) (mod-add-mod v (2 ^ (8 * z)) a)
    ∙ string_mod z (v + a)

-- the string of an XOR is the XOR of the strings
pub string_xor : (z v w : ℕ) → xor_bytes (string z v) (string z w) ≡ string z (bit_xor v w)
unfolding string
string_xor z v w =
    tabulated z (λ i. byte (bit_xor v w) (z - 1 - i)) 0 (xor_bytes (string z v) (string z w))
    (length_xor_bytes (string z v) (string z w) (omega (arith, length_string z v, length_string z w)) ∙ length_string z v)
    (λ i l. get_or_xor_bytes (string z v) (string z w) i (omega (arith, length_string z v)) (omega (arith, length_string z w))
    ∙ ap₂ bit_xor (get_d_tabulate z (λ i. byte v (z - 1 - i)) 0 i l) (get_d_tabulate z (λ i. byte w (z - 1 - i)) 0 i l)
    ∙ sym (byte_xor (z - 1 - i) v w))

-- above the least byte of a byte there is nothing
byte_none : (v k : ℕ) → v < 256 → byte v (suc k) ≡ 0
unfolding byte
byte_none v k h = byte_up v k ∙ ap (λ (x : ℕ). byte x k) (div-eq_of_lt h) ∙ ap (λ (x : ℕ). x % 2 ^ 8) (zero-div (2 ^ (8 * k)))

-- the XOR with a byte at the end of a string
pub xor_last : (z v : ℕ) (xs : List ℕ) → length xs ≡ suc z → v < 256 → set xs z (bit_xor (get_or xs z 0) v) ≡ xor_bytes xs (string (suc z) v)
unfolding string
xor_last z v xs l h =
    ext_get_or 0 (set xs z (bit_xor (get_or xs z 0) v)) (xor_bytes xs (string (suc z) v))
    (length-set xs z _ ∙ sym (length_xor_bytes xs (string (suc z) v) (omega (arith, length_string (suc z) v))))
    (λ i m. at i (subst (λ (k : ℕ). i < k) (length-set xs z _ ∙ l) m))
  where
    there : (i : ℕ) → i < suc z → get_or (xor_bytes xs (string (suc z) v)) i 0 ≡ bit_xor (get_or xs i 0) (byte v (z - i))
    there i m =
        get_or_xor_bytes xs (string (suc z) v) i (omega arith) (omega (arith, length_string (suc z) v))
        ∙ ap (bit_xor (get_or xs i 0)) (get_d_tabulate (suc z) (λ i. byte v (suc z - 1 - i)) 0 i m ∙ (let e : suc z - 1 - i ≡ z - i = omega arith in ap (byte v) e))

    at : (i : ℕ) → i < suc z → get_or (set xs z (bit_xor (get_or xs z 0) v)) i 0 ≡ get_or (xor_bytes xs (string (suc z) v)) i 0
    at i m = ⊎_elim
        (λ (e : i ≡ z). rw e (get_or-set_same xs z _ 0 (omega arith) ∙ sym (there z (omega arith) ∙ ap (bit_xor (get_or xs z 0)) (byte_least v (z - z) (omega arith) ∙ mod-eq_of_lt h))))
        (λ (k : i < z). get_or-set_other xs z i _ 0 (λ e. omega arith)
        ∙ sym (there i m ∙ ap (bit_xor (get_or xs i 0)) (let e : z - i ≡ suc (z - i - 1) = omega arith in ap (byte v) e ∙ byte_none v (z - i - 1) h) ∙ xor_zero_r (get_or xs i 0)))
        (eq-or-lt_of_le (le_of_suc-le-suc m))

-- a number with its first byte apart
pub number_first : (x : ℕ) (xs : List ℕ) → number (x ∷ xs) ≡ x * 2 ^ (8 * length xs) + number xs
unfolding number join
number_first x xs =
    let n : ℕ = length xs in
    ap₂ (λ (a b : ℕ). a * 2 ^ (8 * n) + b)
    (let e : suc n - 1 - n ≡ 0 = omega arith in ap (λ (k : ℕ). get_or (x ∷ xs) k 0) e)
    (join_cong n (λ i. get_or (x ∷ xs) (suc n - 1 - i) 0) (λ i. get_or xs (n - 1 - i) 0)
    (λ i l. let e : suc n - 1 - i ≡ suc (n - 1 - i) = omega arith in ap (λ (k : ℕ). get_or (x ∷ xs) k 0) e))

pub number_lt : (xs : List ℕ) → Bytes xs → number xs < 2 ^ (8 * length xs)
unfolding number
number_lt xs h = join_lt (length xs) (λ i. get_or xs (length xs - 1 - i) 0) (λ i. h (length xs - 1 - i))

-- ---- whole blocks

-- k bytes of whole blocks are k / z blocks
pub whole_blocks : (z k : ℕ) → k % z ≡ 0 → k ≡ k / z * z
whole_blocks z k e = omega (arith, div-add-mod' k z)

-- m blocks before k bytes more
pub blocks_more : (z m k : ℕ) → 0 < z → (m * z + k) / z ≡ m + k / z
blocks_more z m k h = ap (λ (x : ℕ). x / z) (add_comm (m * z) k) ∙ add-mul-div_right k m h ∙ add_comm (k / z) m

-- whole blocks that are not none have a first
pub block_within : (z k : ℕ) → k % z ≡ 0 → 0 < k → z ≤ k
block_within z k e h = by_contra z k (λ (l : k < z). omega (arith, mod-eq_of_lt l))

-- whole blocks after whole blocks
pub whole_rest : (z j k : ℕ) → j ≤ k → j % z ≡ 0 → k % z ≡ 0 → (k - j) % z ≡ 0
whole_rest z j k h p q =
    let e : j + (k - j) ≡ k = omega arith in
    sym (ap (λ (x : ℕ). (x + (k - j)) % z) p ∙ ap (λ (x : ℕ). x % z) (zero-add (k - j))) ∙ mod-add-mod j z (k - j) ∙ ap (λ (x : ℕ). x % z) e ∙ q

-- no blocks are no bytes
pub no_block : (z : ℕ) (xs : List ℕ) → length xs ≡ 0 * z → xs ≡ []
no_block z xs e = sym (take_all 0 xs (omega (arith, zero-mul z)))

-- the first of at least m + 1 blocks, and the rest
module _ (z m : ℕ) (xs : List ℕ) (h : suc m * z ≤ length xs) where
  pub first_within : z ≤ length xs
  first_within = omega (arith, suc-mul m z)

  pub length_first : length (take z xs) ≡ z
  length_first = length-take-le z xs first_within

  pub rest_within : m * z ≤ length (drop z xs)
  rest_within = omega (arith, suc-mul m z, length-drop z xs)

pub length_rest : (z m : ℕ) (xs : List ℕ) → length xs ≡ suc m * z → length (drop z xs) ≡ m * z
length_rest z m xs e = omega (arith, suc-mul m z, length-drop z xs)

-- ---- single blocks

-- block i of m ends within m blocks
pub block_end : (z : ℕ) {i m : ℕ} → i < m → i * z + z ≤ m * z
block_end z {i} {m} h = subst (λ (x : ℕ). x ≤ m * z) (suc-mul i z) (mul-le-mul_right z h)

-- and within a list that has it
pub block_there : (z i k : ℕ) → i < k / z → i * z + z ≤ k
block_there z i k h = omega (arith, block_end z h, div-mul-le_self k z)

-- the first block, and those after it
pub block_zero : (z : ℕ) (xs : List ℕ) → block z 0 xs ≡ take z xs
unfolding block
block_zero z xs = ap (λ (k : ℕ). take z (drop k xs)) (zero-mul z)

pub block_suc : (z i : ℕ) (xs : List ℕ) → block z (suc i) xs ≡ block z i (drop z xs)
unfolding block
block_suc z i xs =
    let e : suc i * z ≡ z + i * z = omega (arith, suc-mul i z) in
    ap (λ (k : ℕ). take z (drop k xs)) e ∙ ap (take z) (sym (drop-drop (i * z) z xs))

-- of a first block and a rest
module _ (z : ℕ) (d rest : List ℕ) (e : length d ≡ z) where
  pub block_first : block z 0 (d ++ rest) ≡ d
  block_first = block_zero z (d ++ rest) ∙ take_at d rest z e

  pub block_next : (i : ℕ) → block z (suc i) (d ++ rest) ≡ block z i rest
  block_next i = block_suc z i (d ++ rest) ∙ ap (block z i) (drop_at d rest z e)

-- in the first of two parts, and in the second
pub block_front : (z m i : ℕ) (xs ys : List ℕ) → length xs ≡ m * z → i < m → block z i (xs ++ ys) ≡ block z i xs
unfolding block
block_front z m i xs ys e h =
    let b : i * z + z ≤ m * z = block_end z h in
    ap (take z) (drop-append-le (i * z) xs ys (omega arith)) ∙ take-append-le z (drop (i * z) xs) ys (omega (arith, length-drop (i * z) xs))

pub block_back : (z m i : ℕ) (xs ys : List ℕ) → length xs ≡ m * z → block z (m + i) (xs ++ ys) ≡ block z i ys
unfolding block
block_back z m i xs ys e =
    ap (λ (k : ℕ). take z (drop k (xs ++ ys))) (add-mul m i z ∙ ap (λ (k : ℕ). k + i * z) (sym e)) ∙ ap (take z) (drop-append-add xs ys (i * z))

pub length_block : (z i : ℕ) (xs : List ℕ) → i * z + z ≤ length xs → length (block z i xs) ≡ z
unfolding block
length_block z i xs h = length-take-le z (drop (i * z) xs) (omega (arith, length-drop (i * z) xs))

pub bytes_block : (z i : ℕ) (xs : List ℕ) → Bytes xs → Bytes (block z i xs)
unfolding block
bytes_block z i xs h = take_bytes z (drop (i * z) xs) (drop_bytes (i * z) xs h)

-- each block of an XOR is the XOR of the blocks
pub block_xor_bytes : (z i : ℕ) (xs ys : List ℕ) → block z i (xor_bytes xs ys) ≡ xor_bytes (block z i xs) (block z i ys)
unfolding block
block_xor_bytes z i xs ys = ap (take z) (drop_xor_bytes (i * z) xs ys) ∙ take_xor_bytes z (drop (i * z) xs) (drop (i * z) ys)

-- a list of whole blocks is known by them
pub ext_blocks : (z m : ℕ) (xs ys : List ℕ) → length xs ≡ m * z → length ys ≡ m * z → ((i : ℕ) → i < m → block z i xs ≡ block z i ys) → xs ≡ ys
ext_blocks z zero xs ys p q h = no_block z xs p ∙ sym (no_block z ys q)
ext_blocks z (suc m) xs ys p q h =
    sym (take-append-drop z xs)
    ∙ ap₂ ◌++◌ (sym (block_zero z xs) ∙ h 0 (omega arith) ∙ block_zero z ys)
    (ext_blocks z m (drop z xs) (drop z ys) (length_rest z m xs p) (length_rest z m ys q) (λ i l. sym (block_suc z i xs) ∙ h (suc i) (omega arith) ∙ block_suc z i ys))
    ∙ take-append-drop z ys

-- ---- equal strings

pub same_refl : (xs : List ℕ) → same xs xs ≡ true
unfolding same
same_refl [] = refl
same_refl (x ∷ xs) = rw (eq-eqb x x refl) (same_refl xs)

pub same_eq : (xs ys : List ℕ) → same xs ys ≡ true → xs ≡ ys
unfolding same
same_eq [] [] e = refl
same_eq [] (y ∷ ys) e = absurd (false≢true e)
same_eq (x ∷ xs) [] e = absurd (false≢true e)
same_eq (x ∷ xs) (y ∷ ys) e = let p = and_both (eqb x y) (same xs ys) e in ap₂ ◌∷◌ (eqb-true x y p.0) (same_eq xs ys p.1)

-- ---- a map at each block

module _ (m : List ℕ → List ℕ) (z : ℕ) where
  pub map_blocks_append : (j k : ℕ) (xs ys : List ℕ) → length xs ≡ j * z → map_blocks m z (j + k) (xs ++ ys) ≡ map_blocks m z j xs ++ map_blocks m z k ys
  unfolding map_blocks
  map_blocks_append zero k xs ys e = ap₂ (λ (i : ℕ) (x : List ℕ). map_blocks m z i (x ++ ys)) (zero-add k) (no_block z xs e)
  map_blocks_append (suc j) k xs ys e =
      let h : z ≤ length xs = first_within z j xs (omega arith) in
      ap (λ (i : ℕ). map_blocks m z i (xs ++ ys)) (suc-add j k)
      ∙ ap₂ (λ (a b : List ℕ). m a ++ map_blocks m z (j + k) b) (take-append-le z xs ys h) (drop-append-le z xs ys h)
      ∙ ap (λ (x : List ℕ). m (take z xs) ++ x) (map_blocks_append j k (drop z xs) ys (length_rest z j xs e))
      ∙ sym (append_assoc (m (take z xs)) (map_blocks m z j (drop z xs)) (map_blocks m z k ys))

  pub each_block_nil : each_block m z [] ≡ []
  unfolding each_block map_blocks
  each_block_nil = ap (λ (k : ℕ). map_blocks m z k []) (zero-div z)

  -- of whole blocks before any string
  pub each_block_append : 0 < z → (xs ys : List ℕ) → length xs % z ≡ 0 → each_block m z (xs ++ ys) ≡ each_block m z xs ++ each_block m z ys
  unfolding each_block
  each_block_append pos xs ys w =
      let e : length xs ≡ length xs / z * z = whole_blocks z (length xs) w in
      let count : length (xs ++ ys) / z ≡ length xs / z + length ys / z =
      ap (λ (x : ℕ). x / z) (length-append xs ys ∙ ap (λ (x : ℕ). x + length ys) e) ∙ blocks_more z (length xs / z) (length ys) pos in
      ap (λ (k : ℕ). map_blocks m z k (xs ++ ys)) count ∙ map_blocks_append (length xs / z) (length ys / z) xs ys e

  -- in two parts, the first of them whole blocks
  pub each_block_parts : 0 < z → (k : ℕ) (xs : List ℕ) → k % z ≡ 0 → k ≤ length xs → each_block m z xs ≡ each_block m z (take k xs) ++ each_block m z (drop k xs)
  each_block_parts pos k xs w h =
      ap (each_block m z) (sym (take-append-drop k xs))
      ∙ each_block_append pos (take k xs) (drop k xs) (ap (λ (x : ℕ). x % z) (length-take-le k xs h) ∙ w)

  -- the first block, and those after it
  pub each_block_front : 0 < z → (xs : List ℕ) → z ≤ length xs → each_block m z xs ≡ m (take z xs) ++ each_block m z (drop z xs)
  unfolding each_block map_blocks
  each_block_front pos xs h =
      let k : ℕ = length (drop z xs) in
      let e : length xs ≡ 1 * z + k = omega (arith, length-drop z xs) in
      let one : 1 + k / z ≡ suc (k / z) = omega arith in
      ap (λ (i : ℕ). map_blocks m z i xs) (ap (λ (x : ℕ). x / z) e ∙ blocks_more z 1 k pos ∙ one)

  -- of one block
  pub each_block_one : 0 < z → (b : List ℕ) → length b ≡ z → each_block m z b ≡ m b
  each_block_one pos b e =
      each_block_front pos b (omega arith)
      ∙ ap₂ (λ (x y : List ℕ). m x ++ each_block m z y) (take_all z b (omega arith)) (drop_of_length-le b {i = z} (omega arith))
      ∙ ap (λ (x : List ℕ). m b ++ x) each_block_nil ∙ append-nil (m b)

  module _ (gives : (b : List ℕ) → length (m b) ≡ z) where
    pub length_map_blocks : (k : ℕ) (xs : List ℕ) → length (map_blocks m z k xs) ≡ k * z
    unfolding map_blocks
    length_map_blocks zero xs = sym (zero-mul z)
    length_map_blocks (suc k) xs =
        length-append (m (take z xs)) (map_blocks m z k (drop z xs)) ∙ omega (arith, gives (take z xs), length_map_blocks k (drop z xs), suc-mul k z)

    -- of whole blocks
    pub length_each_block : (xs : List ℕ) → length xs % z ≡ 0 → length (each_block m z xs) ≡ length xs
    unfolding each_block
    length_each_block xs w = length_map_blocks (length xs / z) xs ∙ sym (whole_blocks z (length xs) w)

    -- block i is m of block i
    pub block_map_blocks : (k i : ℕ) (xs : List ℕ) → i < k → block z i (map_blocks m z k xs) ≡ m (block z i xs)
    unfolding map_blocks
    block_map_blocks zero i xs h = let w : ⊥ = omega arith in absurd w
    block_map_blocks (suc k) zero xs h = block_first z (m (take z xs)) (map_blocks m z k (drop z xs)) (gives (take z xs)) ∙ ap m (sym (block_zero z xs))
    block_map_blocks (suc k) (suc i) xs h =
        block_next z (m (take z xs)) (map_blocks m z k (drop z xs)) (gives (take z xs)) i ∙ block_map_blocks k i (drop z xs) (omega arith) ∙ ap m (sym (block_suc z i xs))

    pub block_each_block : (i : ℕ) (xs : List ℕ) → i < length xs / z → block z i (each_block m z xs) ≡ m (block z i xs)
    unfolding each_block
    block_each_block i xs h = block_map_blocks (length xs / z) i xs h

  module _ (gives : (b : List ℕ) → Bytes (m b)) where
    pub bytes_map_blocks : (k : ℕ) (xs : List ℕ) → Bytes (map_blocks m z k xs)
    unfolding map_blocks
    bytes_map_blocks zero xs i = omega arith
    bytes_map_blocks (suc k) xs i = append_bytes (m (take z xs)) (map_blocks m z k (drop z xs)) (gives (take z xs)) (bytes_map_blocks k (drop z xs)) i

    pub bytes_each_block : (xs : List ℕ) → Bytes (each_block m z xs)
    unfolding each_block
    bytes_each_block xs = bytes_map_blocks (length xs / z) xs

-- maps that agree
pub each_block_cong : (m f : List ℕ → List ℕ) → ((b : List ℕ) → m b ≡ f b) → (z : ℕ) (xs : List ℕ) → each_block m z xs ≡ each_block f z xs
each_block_cong m f h z xs = ap (λ (g : List ℕ → List ℕ). each_block g z xs) (fun_ext h)
