-- Laws of words: their bytes, their rotations, and a map at each byte.
-- Assumes nothing.
use mathlib.Core.Path.{◌≡◌, refl, sym, ap, ap₂, ◌∙◌, subst}
use mathlib.Core.Logic.{⊎_elim}
use Prim.Native.Nat.{ℕ, zero, suc, ◌+◌, ◌-◌, ◌*◌, ◌/◌, ◌%◌, ◌^◌, ◌≤◌, ◌<◌}
use native.Mathlib.Nat.{le_trans, eq-zero-or-pos, div-one, mod-lt, mod-eq_of_lt, mul_assoc, mul-add-mod_self_right, mul-mod_left, eq-or-lt_of_le, le_of_suc-le-suc, add-zero, mul-one, div-eq_of_lt}
use native.Mathlib.Omega.{arith}
use native.Mathlib.Numerals.{add-one}
use native.Mathlib.Decide.{dec_lt}
use lib.Bits.{bit_xor, bit_or, or_self, xor_shr, xor_mod, xor_lt, or_shifted, xor_block}
use lib.Arith.{digits_lt}
use lib.Pow.{pow_pos, pow_mono, pow-add, split, high, low, field, mod-pow-add, shr-shr, shl-shr, shl_exact, shr_lt}
use Rattle.forms.specs.Words.{byte, join, rotl, rotr, each_byte}
use Rattle.forms.proofs.Xor.{Additive, additive_zero}

pub byte_lt : (w k : ℕ) → byte w k < 2 ^ 8
unfolding byte
byte_lt w k = omega arith

-- as a callee's result is known
pub byte_is_lt : {r : ℕ} (w k : ℕ) → r ≡ byte w k → r < 2 ^ 8
byte_is_lt w k e = rw e (byte_lt w k)

pub byte_xor : (k : ℕ) → Additive (λ w. byte w k)
unfolding byte
byte_xor k a b = ap (λ (x : ℕ). x % 2 ^ 8) (xor_shr a b (8 * k)) ∙ xor_mod (a / 2 ^ (8 * k)) (b / 2 ^ (8 * k)) 8

-- what stands from bit m on is nothing to a byte below
pub byte_zero : (k : ℕ) → byte 0 k ≡ 0
byte_zero k = additive_zero (λ w. byte w k) (byte_xor k)

pub byte_low : (x m p k : ℕ) → 8 + 8 * k ≤ m → byte (x * 2 ^ m + p) k ≡ byte p k
unfolding byte
byte_low x m p k h =
    sym (field (x * 2 ^ m + p) 8 (8 * k)) ∙ ap (λ (y : ℕ). y / 2 ^ (8 * k)) same ∙ field p 8 (8 * k)
  where
    s : ℕ
    s = 8 + 8 * k

    same : (x * 2 ^ m + p) % 2 ^ s ≡ p % 2 ^ s
    same =
        ap (λ (y : ℕ). (y + p) % 2 ^ s)
        (ap (λ (e : ℕ). x * 2 ^ e) (omega arith) ∙ ap (λ (y : ℕ). x * y) (pow-add 2 (m - s) s) ∙ sym (mul_assoc x (2 ^ (m - s)) (2 ^ s)))
        ∙ mul-add-mod_self_right (x * 2 ^ (m - s)) (2 ^ s) p

pub join_lt : (n : ℕ) (f : ℕ → ℕ) → ((k : ℕ) → f k < 2 ^ 8) → join n f < 2 ^ (8 * n)
unfolding join
join_lt zero f h = omega arith
join_lt (suc n) f h =
    subst (λ (x : ℕ). join (suc n) f < x) (sym (pow-add 2 8 (8 * n)) ∙ ap (λ (e : ℕ). 2 ^ e) (omega arith)) (digits_lt (h n) (join_lt n f h))

pub byte_join : (n : ℕ) (f : ℕ → ℕ) → ((k : ℕ) → f k < 2 ^ 8) → (k : ℕ) → k < n → byte (join n f) k ≡ f k
unfolding join byte
byte_join zero f h k l = let z : ⊥ = omega arith in absurd z
byte_join (suc n) f h k l =
    ⊎_elim
    (λ (e : k ≡ n). rw e (ap (λ (x : ℕ). x % 2 ^ 8) (high (f n) (8 * n) (join_lt n f h)) ∙ mod-eq_of_lt (h n)))
    (λ (m : k < n). byte_low (f n) (8 * n) (join n f) k (omega arith) ∙ byte_join n f h k m)
    (eq-or-lt_of_le (le_of_suc-le-suc l))

pub join_byte : (n w : ℕ) → join n (byte w) ≡ w % 2 ^ (8 * n)
unfolding join byte
join_byte zero w = omega arith
join_byte (suc n) w =
    ap (λ (x : ℕ). byte w n * 2 ^ (8 * n) + x) (join_byte n w) ∙ sym (mod-pow-add w 8 (8 * n)) ∙ ap (λ (e : ℕ). w % 2 ^ e) (omega arith)

pub join_cong : (n : ℕ) (f g : ℕ → ℕ) → ((k : ℕ) → k < n → f k ≡ g k) → join n f ≡ join n g
unfolding join
join_cong zero f g h = refl
join_cong (suc n) f g h = ap₂ (λ (x y : ℕ). x * 2 ^ (8 * n) + y) (h n (omega arith)) (join_cong n f g (λ k l. h k (omega arith)))

-- two words are equal when their bytes are
pub word_ext : (a b : ℕ) → a < 2 ^ 64 → b < 2 ^ 64 → ((k : ℕ) → k < 8 → byte a k ≡ byte b k) → a ≡ b
word_ext a b ha hb h =
    sym (join_byte 8 a ∙ mod-eq_of_lt ha) ∙ join_cong 8 (byte a) (byte b) h ∙ join_byte 8 b ∙ mod-eq_of_lt hb

-- ---- rotations

-- the low m bits go up by n, and the rest comes in below them
up_parts : (w m n : ℕ) → m + n ≡ 64 → w * 2 ^ n % 2 ^ 64 ≡ w % 2 ^ m * 2 ^ n
up_parts w m n e =
    ap (λ (x : ℕ). w * 2 ^ n % 2 ^ x) (sym e) ∙ mod-pow-add (w * 2 ^ n) m n
    ∙ ap₂ (λ (x y : ℕ). x % 2 ^ m * 2 ^ n + y) (shl-shr w n) (mul-mod_left w (2 ^ n)) ∙ add-zero (w % 2 ^ m * 2 ^ n)

rotl_parts : (w m n : ℕ) → m + n ≡ 64 → rotl w n ≡ w % 2 ^ m * 2 ^ n + w / 2 ^ m
unfolding rotl
rotl_parts w m n e = ap₂ (λ (x y : ℕ). x + w / 2 ^ y) (up_parts w m n e) (omega arith)

-- w has m + n bits, so what comes in below has n
top_lt : (w m n : ℕ) → m + n ≡ 64 → w < 2 ^ 64 → w / 2 ^ m < 2 ^ n
top_lt w m n e hw = let e' : 64 ≡ n + m = omega arith in shr_lt n m (subst (λ (x : ℕ). w < 2 ^ x) e' hw)

pub rotl_lt : (w n : ℕ) → n ≤ 64 → w < 2 ^ 64 → rotl w n < 2 ^ 64
rotl_lt w n h hw =
    let m : ℕ = 64 - n in
    let e : m + n ≡ 64 = omega arith in
    subst (λ (x : ℕ). x < 2 ^ 64) (sym (rotl_parts w m n e))
    (subst (λ (x : ℕ). w % 2 ^ m * 2 ^ n + w / 2 ^ m < x) (sym (pow-add 2 m n) ∙ ap (λ (k : ℕ). 2 ^ k) e)
    (digits_lt (mod-lt w (pow_pos m)) (top_lt w m n e hw)))

-- on by n bits and on by the other 64 - n: all the way round
pub rotl_round : (w m n : ℕ) → m + n ≡ 64 → w < 2 ^ 64 → rotl (rotl w n) m ≡ w
rotl_round w m n e hw =
    rotl_parts (rotl w n) n m (omega arith)
    ∙ ap (λ (x : ℕ). x % 2 ^ n * 2 ^ m + x / 2 ^ n) (rotl_parts w m n e)
    ∙ ap₂ (λ (x y : ℕ). x * 2 ^ m + y) (low (w % 2 ^ m) n (top_lt w m n e hw)) (high (w % 2 ^ m) n (top_lt w m n e hw))
    ∙ split w m

-- as the code has it: (w << n) | (w >> (64 - n))
pub rotl_or : (w n : ℕ) → n ≤ 64 → w < 2 ^ 64 → bit_or (w * 2 ^ n % 2 ^ 64) (w / 2 ^ (64 - n)) ≡ rotl w n
unfolding rotl
rotl_or w n h hw =
    let m : ℕ = 64 - n in
    let e : m + n ≡ 64 = omega arith in
    ap (λ (x : ℕ). bit_or x (w / 2 ^ m)) (up_parts w m n e) ∙ or_shifted (w % 2 ^ m) n (w / 2 ^ m) (top_lt w m n e hw)
    ∙ ap (λ (x : ℕ). x + w / 2 ^ m) (sym (up_parts w m n e))

-- by whole bytes: byte i comes from byte i - k
pub byte_rotl : (w k i : ℕ) → w < 2 ^ 64 → k ≤ 8 → i < 8 → byte (rotl w (8 * k)) i ≡ byte w ((i + 8 - k) % 8)
unfolding byte
byte_rotl w k i hw hk hi =
    ap (λ (x : ℕ). byte x i) (rotl_parts w m n e) ∙ elim (dec_lt i k) [ yes l ↦ below l | no g ↦ above (omega arith) ]
  where
    m : ℕ
    m = 64 - 8 * k

    n : ℕ
    n = 8 * k

    e : m + n ≡ 64
    e = omega arith

    below : i < k → byte (w % 2 ^ m * 2 ^ n + w / 2 ^ m) i ≡ byte w ((i + 8 - k) % 8)
    below l =
        byte_low (w % 2 ^ m) n (w / 2 ^ m) i (omega arith)
        ∙ ap (λ (x : ℕ). x % 2 ^ 8) (shr-shr w m (8 * i) ∙ ap (λ (x : ℕ). w / 2 ^ x) (omega arith))

    above : k ≤ i → byte (w % 2 ^ m * 2 ^ n + w / 2 ^ m) i ≡ byte w ((i + 8 - k) % 8)
    above g =
        ap (λ (x : ℕ). (w % 2 ^ m * 2 ^ n + w / 2 ^ m) / 2 ^ x % 2 ^ 8) (omega arith)
        ∙ ap (λ (x : ℕ). x % 2 ^ 8) (sym (shr-shr (w % 2 ^ m * 2 ^ n + w / 2 ^ m) n (8 * (i - k))) ∙ ap (λ (x : ℕ). x / 2 ^ (8 * (i - k))) (high (w % 2 ^ m) n (top_lt w m n e hw)))
        ∙ sym (byte_low (w / 2 ^ m) m (w % 2 ^ m) (i - k) (omega arith))
        ∙ ap₂ byte (split w m) (omega arith)

pub rotl_zero : (w : ℕ) → w < 2 ^ 64 → rotl w 0 ≡ w
unfolding rotl
rotl_zero w h = ap₂ (λ (x y : ℕ). x + y) (ap (λ (x : ℕ). x % 2 ^ 64) (mul-one w) ∙ mod-eq_of_lt h) (div-eq_of_lt h) ∙ add-zero w

-- a rotation of the xor of two words
pub rotl_xor : (a b n : ℕ) → n ≤ 64 → a < 2 ^ 64 → b < 2 ^ 64 → rotl (bit_xor a b) n ≡ bit_xor (rotl a n) (rotl b n)
rotl_xor a b n h ha hb =
    let m : ℕ = 64 - n in
    let e : m + n ≡ 64 = omega arith in
    rotl_parts (bit_xor a b) m n e
    ∙ ap₂ (λ (x y : ℕ). x * 2 ^ n + y) (xor_mod a b m) (xor_shr a b m)
    ∙ sym (xor_block n (a % 2 ^ m) (b % 2 ^ m) (a / 2 ^ m) (b / 2 ^ m) (top_lt a m n e ha) (top_lt b m n e hb))
    ∙ sym (ap₂ bit_xor (rotl_parts a m n e) (rotl_parts b m n e))

-- ---- to the right

pub rotr_rotl : (w k : ℕ) → k ≤ 64 → rotr w k ≡ rotl w (64 - k)
unfolding rotl rotr
rotr_rotl w k h = let e : 64 - (64 - k) ≡ k = omega arith in ap (λ (x : ℕ). w * 2 ^ (64 - k) % 2 ^ 64 + w / 2 ^ x) (sym e)

pub rotr_lt : (w k : ℕ) → k ≤ 64 → w < 2 ^ 64 → rotr w k < 2 ^ 64
rotr_lt w k h hw = rw (rotr_rotl w k h) (rotl_lt w (64 - k) (omega arith) hw)

pub rotr_undoes : (w k : ℕ) → k ≤ 64 → w < 2 ^ 64 → rotr (rotl w k) k ≡ w
rotr_undoes w k h hw = rotr_rotl (rotl w k) k h ∙ rotl_round w (64 - k) k (omega arith) hw

pub rotl_undoes : (w k : ℕ) → k ≤ 64 → w < 2 ^ 64 → rotl (rotr w k) k ≡ w
rotl_undoes w k h hw = ap (λ (x : ℕ). rotl x k) (rotr_rotl w k h) ∙ rotl_round w k (64 - k) (omega arith) hw

-- ---- a map at each byte

-- f takes bytes to bytes
abbrev pub OnBytes : (ℕ → ℕ) → Type 0
OnBytes f = (x : ℕ) → x < 2 ^ 8 → f x < 2 ^ 8

module _ (f : ℕ → ℕ) (on_bytes : OnBytes f) where
  pub each_lt : (w : ℕ) → each_byte f w < 2 ^ 64
  unfolding each_byte
  each_lt w = join_lt 8 (λ i. f (byte w i)) (λ i. on_bytes (byte w i) (byte_lt w i))

  pub byte_each : (w i : ℕ) → i < 8 → byte (each_byte f w) i ≡ f (byte w i)
  unfolding each_byte
  byte_each w i l = byte_join 8 (λ i. f (byte w i)) (λ i. on_bytes (byte w i) (byte_lt w i)) i l

  pub each_rotl : (w k : ℕ) → w < 2 ^ 64 → k ≤ 8 → each_byte f (rotl w (8 * k)) ≡ rotl (each_byte f w) (8 * k)
  each_rotl w k hw hk =
      word_ext (each_byte f (rotl w (8 * k))) (rotl (each_byte f w) (8 * k)) (each_lt (rotl w (8 * k))) (rotl_lt (each_byte f w) (8 * k) (omega arith) (each_lt w))
      (λ i l. byte_each (rotl w (8 * k)) i l ∙ ap f (byte_rotl w k i hw hk l)
      ∙ sym (byte_rotl (each_byte f w) k i (each_lt w) hk l ∙ byte_each w ((i + 8 - k) % 8) (omega arith)))

  pub each_xor : Additive f → Additive (each_byte f)
  each_xor h a b =
      word_ext (each_byte f (bit_xor a b)) (bit_xor (each_byte f a) (each_byte f b)) (each_lt (bit_xor a b)) (xor_lt 64 (each_byte f a) (each_byte f b) (each_lt a) (each_lt b))
      (λ k l. byte_each (bit_xor a b) k l ∙ ap f (byte_xor k a b) ∙ h (byte a k) (byte b k)
      ∙ sym (byte_xor k (each_byte f a) (each_byte f b) ∙ ap₂ bit_xor (byte_each a k l) (byte_each b k l)))

pub each_cong : (f g : ℕ → ℕ) → ((x : ℕ) → x < 2 ^ 8 → f x ≡ g x) → (w : ℕ) → each_byte f w ≡ each_byte g w
unfolding each_byte
each_cong f g e w = join_cong 8 (λ i. f (byte w i)) (λ i. g (byte w i)) (λ i l. e (byte w i) (byte_lt w i))

pub each_each : (f g : ℕ → ℕ) → OnBytes f → (w : ℕ) → each_byte g (each_byte f w) ≡ each_byte (λ x. g (f x)) w
unfolding each_byte
each_each f g hf w = join_cong 8 (λ i. g (byte (each_byte f w) i)) (λ i. g (f (byte w i))) (λ i l. ap g (byte_each f hf w i l))

-- what undoes each byte undoes the word
pub each_undo : (f g : ℕ → ℕ) → OnBytes f → ((x : ℕ) → x < 2 ^ 8 → g (f x) ≡ x) → (w : ℕ) → w < 2 ^ 64 → each_byte g (each_byte f w) ≡ w
unfolding each_byte
each_undo f g hf e w hw =
    each_each f g hf w ∙ each_cong (λ x. g (f x)) (λ x. x) e w ∙ join_byte 8 w ∙ mod-eq_of_lt hw

-- ---- as the code has them

-- past the eight bytes of a word there is nothing
pub byte_past : (w i : ℕ) → w < 2 ^ 64 → 8 ≤ i → 0 ≡ byte w i
unfolding byte
byte_past w i hw h =
    let e : 64 ≤ 8 * i = omega arith in
    sym (ap (λ (x : ℕ). x % 2 ^ 8) (div-eq_of_lt (le_trans hw (pow_mono e))))

-- (w << s) | (w >> ((64 - s) % 64))
pub rotl_code : (w s : ℕ) → s < 64 → w < 2 ^ 64 → bit_or (w * 2 ^ s % 2 ^ 64) (w / 2 ^ ((64 - s) % 64)) ≡ rotl w s
rotl_code w s h hw =
    ⊎_elim
    (λ (e : s ≡ 0). rw e (ap₂ bit_or (ap (λ (x : ℕ). x % 2 ^ 64) (mul-one w) ∙ mod-eq_of_lt hw) (div-one w) ∙ or_self w ∙ sym (rotl_zero w hw)))
    (λ (p : 0 < s). let e : (64 - s) % 64 ≡ 64 - s = omega arith in
    ap (λ (x : ℕ). bit_or (w * 2 ^ s % 2 ^ 64) (w / 2 ^ x)) e ∙ rotl_or w s (omega arith) hw)
    (eq-zero-or-pos s)

-- a word that a loop makes byte by byte
pub record Joined (n : ℕ) (f : ℕ → ℕ) (r : ℕ) : Type 0 where
  pub small : r < 2 ^ (8 * n)
  pub is : r ≡ join n f

pub joined_none : (f : ℕ → ℕ) → Joined 0 f 0
unfolding join
joined_none f = record { small = omega arith; is = refl }

-- (b << 8 n) | r
pub joined_more : (n : ℕ) (f : ℕ → ℕ) {b r : ℕ} → n < 8 → b < 2 ^ 8 → b ≡ f n → Joined n f r → Joined (n + 1) f (bit_or (b * 2 ^ (8 * n) % 2 ^ 64) r)
unfolding join
joined_more n f {b} {r} l hb e p =
    let whole : bit_or (b * 2 ^ (8 * n) % 2 ^ 64) r ≡ b * 2 ^ (8 * n) + r =
    ap (λ (x : ℕ). bit_or x r) (shl_exact 8 (8 * n) 64 hb (omega arith)) ∙ or_shifted b (8 * n) r p.small in
    let e' : 8 + 8 * n ≡ 8 * (n + 1) = omega arith in
    record {
      small = rw whole (subst (λ (x : ℕ). b * 2 ^ (8 * n) + r < x) (sym (pow-add 2 8 (8 * n)) ∙ ap (λ (x : ℕ). 2 ^ x) e') (digits_lt hb p.small));
      is = whole ∙ ap₂ (λ (x y : ℕ). x * 2 ^ (8 * n) + y) e p.is ∙ ap (λ (m : ℕ). join m f) (sym (add-one n));
    }

pub joined_end : {m n r : ℕ} (f : ℕ → ℕ) → m ≡ n → Joined m f r → r ≡ join n f
joined_end f e p = p.is ∙ ap (λ (k : ℕ). join k f) e
