-- Laws of half-blocks: what stands in `each`, `zip`, `words` and `bytes`, and that words and bytes undo each other.
-- Assumes nothing.
use mathlib.Core.Path.{◌≡◌, sym, ap, ap₂, ◌∙◌}
use mathlib.Core.List.{List, ◌++◌}
use Prim.Native.Nat.{ℕ, ◌+◌, ◌-◌, ◌*◌, ◌^◌, ◌<◌}
use native.Mathlib.Omega.{arith}
use lib.ListN.{length, get_or, take, drop, length-append, length-drop, take-append-drop}
use lib.Seq.{take_at, drop_at, length-take-le}
use Rattle.forms.specs.Words.{words, bytes}
use Rattle.forms.proofs.Bytes.{length_bytes, Bytes, Good, good_tabulate, good_words, bytes_small, words_bytes, bytes_words, words_take, drop_bytes, take_bytes, append_bytes}
use Rattle.forms.proofs.Lists.{length_tabulate, get_d_tabulate}
use Rattle.labyrinth.specs.Blocks.{Block, each, zip, load, store}

pub length_each : (n : ℕ) (f : ℕ → ℕ) (x : List ℕ) → length (each n f x) ≡ n
unfolding each
length_each n f x = length_tabulate n (λ j. f (get_or x j 0))

pub get_or_each : (n : ℕ) (f : ℕ → ℕ) (x : List ℕ) (j : ℕ) → j < n → get_or (each n f x) j 0 ≡ f (get_or x j 0)
unfolding each
get_or_each n f x j l = get_d_tabulate n (λ j. f (get_or x j 0)) 0 j l

pub length_zip : (n : ℕ) (f : ℕ → ℕ → ℕ) (x y : List ℕ) → length (zip n f x y) ≡ n
unfolding zip
length_zip n f x y = length_tabulate n (λ j. f (get_or x j 0) (get_or y j 0))

pub get_d_zip : (n : ℕ) (f : ℕ → ℕ → ℕ) (x y : List ℕ) (j : ℕ) → j < n → get_or (zip n f x y) j 0 ≡ f (get_or x j 0) (get_or y j 0)
unfolding zip
get_d_zip n f x y j l = get_d_tabulate n (λ j. f (get_or x j 0) (get_or y j 0)) 0 j l

-- ---- lists of bytes and of words

-- a block of n such words a half
pub record Whole (n : ℕ) (s : Block) : Type 0 where
  pub high : Good n s.0
  pub low : Good n s.1

pub good_each : (n : ℕ) (f : ℕ → ℕ) (x : List ℕ) → ((i : ℕ) → f (get_or x i 0) < 2 ^ 64) → Good n (each n f x)
unfolding each
good_each n f x h = good_tabulate n (λ j. f (get_or x j 0)) h

pub good_zip : (n : ℕ) (f : ℕ → ℕ → ℕ) (x y : List ℕ) → ((i : ℕ) → f (get_or x i 0) (get_or y i 0) < 2 ^ 64) → Good n (zip n f x y)
unfolding zip
good_zip n f x y h = good_tabulate n (λ j. f (get_or x j 0) (get_or y j 0)) h

-- ---- words and bytes undo each other

pub pair : {a c b d : List ℕ} → a ≡ c → b ≡ d → ◌≡◌ {A = Block} (a, b) (c, d)
pair p q = λ i. (p i, q i)

pub load_store : (n : ℕ) (s : Block) → Whole n s → load n (store n s) ≡ s
unfolding load store
load_store n s g =
    pair (ap (words n) (drop_at (bytes n s.1) (bytes n s.0) (8 * n) (length_bytes n s.1)) ∙ words_bytes n s.0 g.high)
    (sym (words_take n (bytes n s.1 ++ bytes n s.0))
    ∙ ap (words n) (take_at (bytes n s.1) (bytes n s.0) (8 * n) (length_bytes n s.1)) ∙ words_bytes n s.1 g.low)

pub store_load : (n : ℕ) (bs : List ℕ) → length bs ≡ 16 * n → Bytes bs → store n (load n bs) ≡ bs
unfolding load store
store_load n bs e h =
    ap₂ ◌++◌ (ap (bytes n) (sym (words_take n bs)) ∙ bytes_words n (take (8 * n) bs) (length-take-le (8 * n) bs (omega arith)) (take_bytes (8 * n) bs h))
    (bytes_words n (drop (8 * n) bs) (omega (arith, length-drop (8 * n) bs)) (drop_bytes (8 * n) bs h))
    ∙ take-append-drop (8 * n) bs

pub load_whole : (n : ℕ) (bs : List ℕ) → Bytes bs → Whole n (load n bs)
unfolding load
load_whole n bs h = record { high = good_words n (drop (8 * n) bs) (drop_bytes (8 * n) bs h); low = good_words n bs h }

pub length_store : (n : ℕ) (s : Block) → length (store n s) ≡ 16 * n
unfolding store
length_store n s = length-append (bytes n s.1) (bytes n s.0) ∙ omega (arith, length_bytes n s.1, length_bytes n s.0)

pub store_bytes_lem : (n : ℕ) (s : Block) → Bytes (store n s)
unfolding store
store_bytes_lem n s = append_bytes (bytes n s.1) (bytes n s.0) (bytes_small n s.1) (bytes_small n s.0)
