-- Laws of a string laid over the front of another, byte by byte as the loops do it.
-- Assumes nothing.
use mathlib.Core.Path.{◌≡◌, sym, ap, ap₂, ◌∙◌}
use mathlib.Core.List.{List, ◌++◌, append-nil, append_assoc}
use Prim.Native.Nat.{ℕ, ◌+◌, ◌-◌, ◌≤◌, ◌<◌, min}
use native.Mathlib.Nat.{zero-add}
use native.Mathlib.Numerals.{add-one}
use native.Mathlib.Omega.{arith, min_cases}
use lib.Bits.{bit_xor}
use lib.ListN.{length, get_or, take, drop, set, replicate, length-append, length-take, length-drop, length-replicate, drop_of_length-le}
use lib.Seq.{paste-suc, take_all, take-append_seam, take-add, take_at, drop_at, drop-drop, length-take-le, get_or-take, get_or-drop}
use Rattle.forms.specs.Lists.{tabulate}
use Rattle.forms.specs.Words.{byte}
use Rattle.forms.specs.Strings.{xor_bytes}
use Rattle.forms.proofs.Lists.{tabulated}
use Rattle.forms.proofs.Words.{byte_xor, byte_join}
use Rattle.forms.proofs.Bytes.{Bytes}
use Rattle.forms.proofs.Strings.{length_xor_bytes, get_or_xor_bytes}
use Rattle.buffers.specs.Words.{word_at, with_word}
use Rattle.buffers.proofs.Words.{word_at_lem, with_word_lem}

-- ---- the first i bytes of xs, and d from there on

-- one byte more
pub lay_next : (xs d : List ℕ) (i : ℕ) {e : List ℕ} {v : ℕ} → i < length xs → i < length d → e ≡ take i xs ++ drop i d → v ≡ get_or xs i 0
    → set e i v ≡ take (i + 1) xs ++ drop (i + 1) d
lay_next xs d i h k p q = rw (p, q, add-one) (simp zero-add at (paste-suc d 0 xs i 0 (omega arith) h))

-- behind them d still stands
pub lay_behind : (xs d : List ℕ) (i k : ℕ) {e : List ℕ} → i ≤ length xs → i ≤ k → e ≡ take i xs ++ drop i d → drop k e ≡ drop k d
lay_behind xs d i k {e} h m p =
    ap (λ (j : ℕ). drop j e) split ∙ sym (drop-drop (k - i) i e)
    ∙ ap (drop (k - i)) (ap (drop i) p ∙ drop_at (take i xs) (drop i d) i (length-take-le i xs h))
    ∙ drop-drop (k - i) i d ∙ ap (λ (j : ℕ). drop j d) (sym split)
  where
    split : k ≡ i + (k - i)
    split = omega arith

-- a word more
pub lay_word : (xs d : List ℕ) (i w : ℕ) {e : List ℕ} → i + 8 ≤ length xs → i + 8 ≤ length d → length e ≡ length d → e ≡ take i xs ++ drop i d
    → ((k : ℕ) → k < 8 → get_or xs (i + k) 0 ≡ byte w k) → with_word i w e ≡ take (i + 8) xs ++ drop (i + 8) d
lay_word xs d i w {e} h k l p q =
    with_word_lem i w e (omega arith)
    ∙ ap₂ (λ (x y : List ℕ). x ++ (tabulate 8 (byte w) ++ y)) (ap (take i) p ∙ take_at (take i xs) (drop i d) i (length-take-le i xs (omega arith)))
    (lay_behind xs d i (i + 8) (omega arith) (omega arith) p)
    ∙ ap (λ (x : List ℕ). take i xs ++ (x ++ drop (i + 8) d)) (sym eight)
    ∙ sym (append_assoc (take i xs) (take 8 (drop i xs)) (drop (i + 8) d))
    ∙ ap (λ (x : List ℕ). x ++ drop (i + 8) d) (sym (take-add i 8 xs))
  where
    eight : take 8 (drop i xs) ≡ tabulate 8 (byte w)
    eight =
        tabulated 8 (byte w) 0 (take 8 (drop i xs)) (length-take-le 8 (drop i xs) (omega (arith, length-drop {A = ℕ} i xs)))
        (λ j m. get_or-take 8 (drop i xs) j 0 m ∙ get_or-drop i xs j 0 ∙ q j m)

-- a byte of a word in a string
pub byte_word_at : (s : List ℕ) (i : ℕ) → Bytes s → i + 8 ≤ length s → (k : ℕ) → k < 8 → byte (word_at s i) k ≡ get_or s (i + k) 0
byte_word_at s i small h k m = ap (λ (w : ℕ). byte w k) (word_at_lem s i h) ∙ byte_join 8 (λ b. get_or s (i + b) 0) (λ b. small (i + b)) k m

-- the XOR of two words is the XOR of their bytes
pub xor_word : (a b : List ℕ) (i : ℕ) → Bytes a → Bytes b → i + 8 ≤ length a → i + 8 ≤ length b → (k : ℕ) → k < 8
    → get_or (xor_bytes a b) (i + k) 0 ≡ byte (bit_xor (word_at a i) (word_at b i)) k
xor_word a b i p q h j k m =
    get_or_xor_bytes a b (i + k) (omega arith) (omega arith)
    ∙ sym (byte_xor k (word_at a i) (word_at b i) ∙ ap₂ bit_xor (byte_word_at a i p h k m) (byte_word_at b i q j k m))

-- as far as both go
pub lay_all : (xs d : List ℕ) (m : ℕ) {e : List ℕ} → m ≡ min (length d) (length xs) → e ≡ take m xs ++ drop m d → e ≡ take (length d) xs ++ drop (length xs) d
lay_all xs d m {e} p q = min_cases (length d) (length xs) (e ≡ take (length d) xs ++ drop (length xs) d) short long
  where
    short : length d ≤ length xs → min (length d) (length xs) ≡ length d → e ≡ take (length d) xs ++ drop (length xs) d
    short h r =
        q ∙ ap (λ (i : ℕ). take i xs ++ drop i d) (p ∙ r)
        ∙ ap (λ (x : List ℕ). take (length d) xs ++ x) (drop_of_length-le d {i = length d} (omega arith) ∙ sym (drop_of_length-le d {i = length xs} h))

    long : length xs ≤ length d → min (length d) (length xs) ≡ length xs → e ≡ take (length d) xs ++ drop (length xs) d
    long h r =
        q ∙ ap (λ (i : ℕ). take i xs ++ drop i d) (p ∙ r)
        ∙ ap (λ (x : List ℕ). x ++ drop (length xs) d) (take_all (length xs) xs (omega arith) ∙ sym (take_all (length d) xs h))

-- ---- what the operations make of strings of one length

pub laid_whole : (xs d : List ℕ) → length xs ≡ length d → take (length d) xs ++ drop (length xs) d ≡ xs
laid_whole xs d e =
    ap₂ ◌++◌ (take_all (length d) xs (omega arith)) (drop_of_length-le d {i = length xs} (omega arith)) ∙ append-nil xs

pub xor_whole : (a b d : List ℕ) {x r : List ℕ} → length a ≤ length b → length d ≡ length a → r ≡ take (length d) (xor_bytes a x) ++ drop (length (xor_bytes a x)) d → x ≡ b
    → r ≡ xor_bytes a b
xor_whole a b d h same e p =
    e ∙ ap (λ (x : List ℕ). take (length d) (xor_bytes a x) ++ drop (length (xor_bytes a x)) d) p
    ∙ laid_whole (xor_bytes a b) d (length_xor_bytes a b h ∙ sym same)

pub copy_whole : (d : List ℕ) {r s : List ℕ} → length r ≡ length s → r ≡ take (length d) s ++ drop (length s) d → length r ≡ length d → r ≡ s
copy_whole d {r} {s} h e k = e ∙ laid_whole s d (sym h ∙ k)

-- and of a longer destination: the string stands at its front
pub copy_front : (d s : List ℕ) {r : List ℕ} → r ≡ take (length d) s ++ drop (length s) d → length s ≤ length d → take (length s) r ≡ s
copy_front d s e h =
    ap (take (length s)) (e ∙ ap (λ (x : List ℕ). x ++ drop (length s) d) (take_all (length d) s h)) ∙ take-append_seam s (drop (length s) d)

-- so in the 64 bytes for a block
pub block_copy_front : (s : List ℕ) {r : List ℕ} → length s ≤ 64 → r ≡ take 64 s ++ drop (length s) (replicate 64 0) → take (length s) r ≡ s
block_copy_front s h e = copy_front (replicate 64 0) s e h

pub block_copy_length : (s : List ℕ) {r : List ℕ} → length s ≤ 64 → r ≡ take 64 s ++ drop (length s) (replicate 64 0) → length r ≡ 64
block_copy_length s h e =
    ap length e ∙ length-append (take 64 s) (drop (length s) (replicate 64 0))
    ∙ omega (arith, length-take 64 s, length-drop {A = ℕ} (length s) (replicate 64 0), length-replicate {A = ℕ} 64 0)
