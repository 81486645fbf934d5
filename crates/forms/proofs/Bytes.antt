-- Lists of bytes and of words: what stands in `words` and `bytes`, and that these undo each other.
-- Assumes nothing.
use mathlib.Core.Path.{◌≡◌, sym, ap, ap₂, ◌∙◌}
use mathlib.Core.List.{List, [], ◌∷◌, ◌++◌}
use Prim.Native.Nat.{ℕ, zero, suc, ◌+◌, ◌*◌, ◌/◌, ◌%◌, ◌^◌, ◌<◌}
use native.Mathlib.Nat.{mod-eq_of_lt}
use native.Mathlib.Omega.{arith}
use lib.ListN.{length, get_or, take, drop}
use lib.Seq.{get_or-take, get_or-drop}
use Rattle.forms.specs.Lists.{tabulate}
use Rattle.forms.specs.Words.{byte, join, words, bytes}
use Rattle.forms.proofs.Lists.{length_tabulate, get_d_tabulate, tabulate_cong, tabulated}
use Rattle.forms.proofs.Words.{byte_lt, join_lt, byte_join, join_byte, join_cong}

pub length_words : (n : ℕ) (bs : List ℕ) → length (words n bs) ≡ n
unfolding words
length_words n bs = length_tabulate n (λ j. join 8 (λ b. get_or bs (8 * j + b) 0))

pub get_d_words : (n : ℕ) (bs : List ℕ) (j : ℕ) → j < n → get_or (words n bs) j 0 ≡ join 8 (λ b. get_or bs (8 * j + b) 0)
unfolding words
get_d_words n bs j l = get_d_tabulate n (λ j. join 8 (λ b. get_or bs (8 * j + b) 0)) 0 j l

pub length_bytes : (n : ℕ) (x : List ℕ) → length (bytes n x) ≡ 8 * n
unfolding bytes
length_bytes n x = length_tabulate (8 * n) (λ i. byte (get_or x (i / 8) 0) (i % 8))

pub get_or_bytes : (n : ℕ) (x : List ℕ) (i : ℕ) → i < 8 * n → get_or (bytes n x) i 0 ≡ byte (get_or x (i / 8) 0) (i % 8)
unfolding bytes
get_or_bytes n x i l = get_d_tabulate (8 * n) (λ i. byte (get_or x (i / 8) 0) (i % 8)) 0 i l

-- ---- lists of bytes and of words

abbrev pub Bytes : List ℕ → Type 0
Bytes bs = (i : ℕ) → get_or bs i 0 < 2 ^ 8

abbrev pub Small : List ℕ → Type 0
Small ws = (i : ℕ) → get_or ws i 0 < 2 ^ 64

-- n words, each below 2 ^ 64
pub record Good (n : ℕ) (x : List ℕ) : Type 0 where
  pub len : length x ≡ n
  pub small : Small x

pub tabulate_small : (n : ℕ) (f : ℕ → ℕ) (m : ℕ) → 0 < m → ((i : ℕ) → f i < m) → (i : ℕ) → get_or (tabulate n f) i 0 < m
unfolding tabulate
tabulate_small zero f m p h i = p
tabulate_small (suc n) f m p h zero = h 0
tabulate_small (suc n) f m p h (suc i) = tabulate_small n (λ k. f (suc k)) m p (λ k. h (suc k)) i

pub good_tabulate : (n : ℕ) (f : ℕ → ℕ) → ((i : ℕ) → f i < 2 ^ 64) → Good n (tabulate n f)
good_tabulate n f h = record { len = length_tabulate n f; small = tabulate_small n f (2 ^ 64) (omega arith) h }

pub good_words : (n : ℕ) (bs : List ℕ) → Bytes bs → Good n (words n bs)
unfolding words
good_words n bs h = good_tabulate n (λ j. join 8 (λ b. get_or bs (8 * j + b) 0)) (λ j. join_lt 8 (λ b. get_or bs (8 * j + b) 0) (λ b. h (8 * j + b)))

pub bytes_small : (n : ℕ) (x : List ℕ) → Bytes (bytes n x)
unfolding bytes
bytes_small n x = tabulate_small (8 * n) (λ i. byte (get_or x (i / 8) 0) (i % 8)) (2 ^ 8) (omega arith) (λ i. byte_lt (get_or x (i / 8) 0) (i % 8))

-- ---- words and bytes undo each other

pub words_bytes : (n : ℕ) (x : List ℕ) → Good n x → words n (bytes n x) ≡ x
unfolding words
words_bytes n x g =
    sym (tabulated n (λ j. join 8 (λ b. get_or (bytes n x) (8 * j + b) 0)) 0 x g.len (λ j l.
    sym (join_cong 8 (λ b. get_or (bytes n x) (8 * j + b) 0) (byte (get_or x j 0)) (λ b m.
    let p : (8 * j + b) / 8 ≡ j = omega arith in
    let q : (8 * j + b) % 8 ≡ b = omega arith in
    get_or_bytes n x (8 * j + b) (omega arith) ∙ ap₂ (λ (u v : ℕ). byte (get_or x u 0) v) p q)
    ∙ join_byte 8 (get_or x j 0) ∙ mod-eq_of_lt (g.small j))))

pub bytes_words : (n : ℕ) (bs : List ℕ) → length bs ≡ 8 * n → Bytes bs → bytes n (words n bs) ≡ bs
unfolding bytes
bytes_words n bs e h =
    sym (tabulated (8 * n) (λ i. byte (get_or (words n bs) (i / 8) 0) (i % 8)) 0 bs e (λ i l.
    let r : 8 * (i / 8) + i % 8 ≡ i = omega arith in
    sym (ap (λ (w : ℕ). byte w (i % 8)) (get_d_words n bs (i / 8) (omega arith))
    ∙ byte_join 8 (λ b. get_or bs (8 * (i / 8) + b) 0) (λ b. h (8 * (i / 8) + b)) (i % 8) (omega arith)
    ∙ ap (λ (k : ℕ). get_or bs k 0) r)))

-- words are known by the first 8n bytes
pub words_take : (n : ℕ) (bs : List ℕ) → words n (take (8 * n) bs) ≡ words n bs
unfolding words
words_take n bs =
    tabulate_cong n (λ j. join 8 (λ b. get_or (take (8 * n) bs) (8 * j + b) 0)) (λ j. join 8 (λ b. get_or bs (8 * j + b) 0))
    (λ j l. join_cong 8 (λ b. get_or (take (8 * n) bs) (8 * j + b) 0) (λ b. get_or bs (8 * j + b) 0) (λ b m. get_or-take (8 * n) bs (8 * j + b) 0 (omega arith)))

pub drop_bytes : (k : ℕ) (bs : List ℕ) → Bytes bs → Bytes (drop k bs)
drop_bytes k bs h i = rw (get_or-drop k bs i 0) (h (k + i))

pub take_bytes : (k : ℕ) (bs : List ℕ) → Bytes bs → Bytes (take k bs)
take_bytes zero bs h i = omega arith
take_bytes (suc k) [] h i = omega arith
take_bytes (suc k) (b ∷ bs) h zero = h zero
take_bytes (suc k) (b ∷ bs) h (suc i) = take_bytes k bs (λ i. h (suc i)) i

pub append_bytes : (xs bs : List ℕ) → Bytes xs → Bytes bs → Bytes (xs ++ bs)
append_bytes [] bs ha hb i = hb i
append_bytes (a ∷ xs) bs ha hb zero = ha zero
append_bytes (a ∷ xs) bs ha hb (suc i) = append_bytes xs bs (λ i. ha (suc i)) hb i
