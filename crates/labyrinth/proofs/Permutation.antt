-- Laws of P(n): byte b of word j is byte b of word (j + b) mod n, so that a table is looked up where the bytes stand.
-- Assumes nothing.
use mathlib.Core.Path.{◌≡◌, refl, sym, ap, ap₂, ◌∙◌, subst}
use mathlib.Core.Bool.{Bool, true, false}
use mathlib.Core.List.{List}
use Prim.Native.Nat.{ℕ, ◌+◌, ◌*◌, ◌/◌, ◌%◌, ◌≤◌, ◌<◌}
use native.Mathlib.Nat.{mul_comm, mod-lt, zero-lt-suc}
use native.Mathlib.Omega.{arith}
use lib.Arith.{mod-mul, digits_div, digits_mod}
use lib.Bits.{bit_xor, xor_zero_r}
use lib.ListN.{get_or, take}
use lib.Seq.{get_or-take}
use Rattle.forms.specs.Lists.{tabulate, xor_sum}
use Rattle.forms.specs.Words.{byte, join, rotl, words, bytes}
use Rattle.forms.proofs.Lists.{get_d_tabulate, tabulate_cong}
use Rattle.forms.proofs.Xor.{xors, xor_assoc}
use Rattle.forms.proofs.Sums.{xor_sum_cong, xor_sum_next}
use Rattle.forms.proofs.Words.{byte_lt, byte_join, join_cong}
use Rattle.forms.proofs.Bytes.{get_d_words, get_or_bytes}
use Rattle.labyrinth.specs.Cipher.{P}
use Rattle.labyrinth.specs.Working.{Size, share}
use Rattle.labyrinth.proofs.Sizes.{sizes}

-- ---- where a byte comes from

nine : (n : ℕ) → Size n → (j b : ℕ) → (9 * j + b) % n ≡ (j + b) % n
nine = sizes (λ n. (j b : ℕ) → (9 * j + b) % n ≡ (j + b) % n) (λ j b. omega arith) (λ j b. omega arith) (λ j b. omega arith)

from : (n : ℕ) → Size n → (j b : ℕ) → b < 8 → 9 * (8 * j + b) % (8 * n) ≡ (j + b) % n * 8 + b
from n s j b l =
    let e : 9 * (8 * j + b) ≡ (9 * j + b) * 8 + b = omega arith in
    rw (e, mul_comm 8 n, mod-mul ((9 * j + b) * 8 + b) s.pos (zero-lt-suc 7), digits_div (9 * j + b) l, digits_mod (9 * j + b) l, nine n s j b)

-- word j of P(n)
pub get_or_P : (n : ℕ) → Size n → (y : List ℕ) (j : ℕ) → j < n → get_or (P n y) j 0 ≡ join 8 (λ b. byte (get_or y ((j + b) % n) 0) b)
unfolding P
get_or_P n s y j h =
    get_d_words n (tabulate (8 * n) source) j h
    ∙ join_cong 8 (λ b. get_or (tabulate (8 * n) source) (8 * j + b) 0) (λ b. byte (get_or y ((j + b) % n) 0) b)
    (λ b l. get_d_tabulate (8 * n) source 0 (8 * j + b) (omega arith)
    ∙ get_or_bytes n y (9 * (8 * j + b) % (8 * n)) (mod-lt (9 * (8 * j + b)) (omega (arith, s.pos)))
    ∙ rw (from n s j b l) (ap₂ (λ (p q : ℕ). byte (get_or y p 0) q) (digits_div ((j + b) % n) l) (digits_mod ((j + b) % n) l)))
  where
    source : ℕ → ℕ
    source i = get_or (bytes n y) (9 * i % (8 * n)) 0

-- byte b of it
pub byte_P : (n : ℕ) → Size n → (y : List ℕ) (j b : ℕ) → j < n → b < 8 → byte (get_or (P n y) j 0) b ≡ byte (get_or y ((j + b) % n) 0) b
byte_P n s y j b h l =
    ap (λ (w : ℕ). byte w b) (get_or_P n s y j h) ∙ byte_join 8 (λ b. byte (get_or y ((j + b) % n) 0) b) (λ k. byte_lt (get_or y ((j + k) % n) 0) k) b l

-- P(n) reads n words
pub P_take : (n : ℕ) (y : List ℕ) → P n (take n y) ≡ P n y
unfolding P bytes
P_take n y =
    ap (λ (bs : List ℕ). words n (tabulate (8 * n) (λ i. get_or bs (9 * i % (8 * n)) 0)))
    (tabulate_cong (8 * n) (λ i. byte (get_or (take n y) (i / 8) 0) (i % 8)) (λ i. byte (get_or y (i / 8) 0) (i % 8))
    (λ i l. ap (λ (x : ℕ). byte x (i % 8)) (get_or-take n y (i / 8) 0 (omega arith))))

-- ---- what its bytes add, g of a byte's number and its value

-- what byte b of word j adds
unfoldable pub term : (ℕ → ℕ → ℕ) → ℕ → List ℕ → ℕ → ℕ → ℕ
term g n y j b = g b (byte (get_or y ((j + b) % n) 0) b)

pub terms_P : (g : ℕ → ℕ → ℕ) (n : ℕ) → Size n → (y : List ℕ) (j : ℕ) → j < n → xor_sum 8 (λ b. g b (byte (get_or (P n y) j 0) b)) ≡ xor_sum 8 (term g n y j)
unfolding term
terms_P g n s y j h =
    xor_sum_cong 8 (λ b. g b (byte (get_or (P n y) j 0) b)) (λ b. g b (byte (get_or y ((j + b) % n) 0) b)) (λ b l. ap (g b) (byte_P n s y j b h l))

-- past a multiple of n, and past 4, the words stand as they did
around : (n : ℕ) → Size n → (j p d : ℕ) → p % n ≡ 0 → ((j + d) % n ≡ (j + (p + d)) % n) × ((j + d) % n ≡ (j + (p + d + 4)) % n)
around =
    sizes (λ n. (j p d : ℕ) → p % n ≡ 0 → ((j + d) % n ≡ (j + (p + d)) % n) × ((j + d) % n ≡ (j + (p + d + 4)) % n))
    (λ j p d e. (omega arith, omega arith)) (λ j p d e. (omega arith, omega arith)) (λ j p d e. (omega arith, omega arith))

pub multiple_more : (n : ℕ) → Size n → (p : ℕ) → p % n ≡ 0 → (p + n) % n ≡ 0
multiple_more = sizes (λ n. (p : ℕ) → p % n ≡ 0 → (p + n) % n ≡ 0) (λ p e. omega arith) (λ p e. omega arith) (λ p e. omega arith)

pub multiple_end : (n : ℕ) → Size n → (p : ℕ) → p % n ≡ 0 → p ≤ 4 → 4 < p + n → p ≡ 4
multiple_end = sizes (λ n. (p : ℕ) → p % n ≡ 0 → p ≤ 4 → 4 < p + n → p ≡ 4) (λ p e l h. omega arith) (λ p e l h. omega arith) (λ p e l h. omega arith)

-- eight terms are four and the four behind them
pub xor_sum_eight : (f : ℕ → ℕ) → bit_xor (xor_sum 4 f) (xor_sum 4 (λ b. f (b + 4))) ≡ xor_sum 8 f
unfolding xor_sum
xor_sum_eight f = sorted (f 0) (f 1) (f 2) (f 3) (f 4) (f 5) (f 6) (f 7)
  where
    sorted : (a b c d e f g h : ℕ) → bit_xor (bit_xor (bit_xor (bit_xor a b) c) d) (bit_xor (bit_xor (bit_xor e f) g) h) ≡ bit_xor (bit_xor (bit_xor (bit_xor (bit_xor (bit_xor (bit_xor a b) c) d) e) f) g) h
    sorted a b c d e f g h = simp xors

-- two sums: of the terms below k with v, and of the terms below k that stand four on
pub record Sums (g : ℕ → ℕ → ℕ) (n : ℕ) (y : List ℕ) (j v k even odd : ℕ) : Type 0 where
  pub low : even ≡ bit_xor v (xor_sum k (term g n y j))
  pub high : odd ≡ xor_sum k (λ b. term g n y j (b + 4))

module _ (g : ℕ → ℕ → ℕ) (n : ℕ) (s : Size n) (y : List ℕ) (j v : ℕ) where
  pub sums_none : Sums g n y j v 0 v 0
  unfolding xor_sum
  sums_none = record { low = sym (xor_zero_r v); high = refl }

  pub sums_more : (p d : ℕ) {even odd a b : ℕ} → p % n ≡ 0 → Sums g n y j v (p + d) even odd
      → a ≡ g (p + d) (byte (get_or y ((j + d) % n) 0) (p + d))
      → b ≡ g (p + d + 4) (byte (get_or y ((j + d) % n) 0) (p + d + 4))
      → Sums g n y j v (p + (d + 1)) (bit_xor even a) (bit_xor odd b)
  unfolding term
  sums_more p d {even} {odd} {a} {b} e h ea eb =
      let k : ℕ = p + d in
      let next : k + 1 ≡ p + (d + 1) = omega arith in
      let put : ℕ → ℕ → ℕ = λ i b. g b (byte (get_or y i 0) b) in
      record {
        low =
            ap (λ (x : ℕ). bit_xor x a) h.low ∙ xor_assoc v (xor_sum k (term g n y j)) a
            ∙ ap (bit_xor v) (xor_sum_next k (term g n y j) refl (ea ∙ ap (λ (i : ℕ). put i k) (around n s j p d e).0) ∙ ap (λ (m : ℕ). xor_sum m (term g n y j)) next);
        high =
            xor_sum_next k (λ b. term g n y j (b + 4)) h.high (eb ∙ ap (λ (i : ℕ). put i (k + 4)) (around n s j p d e).1)
            ∙ ap (λ (m : ℕ). xor_sum m (λ b. term g n y j (b + 4))) next;
      }

  pub sums_at : {p q even odd : ℕ} → p ≡ q → Sums g n y j v p even odd → Sums g n y j v q even odd
  sums_at {p} {q} {even} {odd} e h = subst (λ (k : ℕ). Sums g n y j v k even odd) e h

  -- both together are v and the eight terms
  pub sums_all : {p even odd : ℕ} → p ≡ 4 → j < n → Sums g n y j v p even odd → bit_xor even odd ≡ bit_xor v (xor_sum 8 (λ b. g b (byte (get_or (P n y) j 0) b)))
  unfolding xor_sum
  sums_all {p} {even} {odd} e l h =
      ap₂ bit_xor (h.low ∙ ap (λ (k : ℕ). bit_xor v (xor_sum k (term g n y j))) e) (h.high ∙ ap (λ (k : ℕ). xor_sum k (λ b. term g n y j (b + 4))) e)
      ∙ xor_assoc v (xor_sum 4 (term g n y j)) (xor_sum 4 (λ b. term g n y j (b + 4)))
      ∙ ap (bit_xor v) (xor_sum_eight (term g n y j) ∙ sym (terms_P g n s y j l))

-- ---- by a lent table

-- what a byte adds, by the eight tables and by the one
pub share_eight : (t : List ℕ) (b x : ℕ) {eight : Bool} {i : ℕ} → eight ≡ true → i ≡ x → get_or t (256 * b + i) 0 ≡ share eight t b x
unfolding share
share_eight t b x e p = rw (e, p)

pub share_one : (t : List ℕ) (b x : ℕ) {eight : Bool} {i v : ℕ} → eight ≡ false → v ≡ rotl (get_or t i 0) (8 * b) → i ≡ x → v ≡ share eight t b x
unfolding share
share_one t b x e q p = rw e (q ∙ ap (λ (k : ℕ). rotl (get_or t k 0) (8 * b)) p)
