-- One block as its 2n words stand in memory: one map of it after another, and its bytes; and look-up in the first four of eight tables.
-- Assumes nothing.
use mathlib.Core.Path.{◌≡◌, refl, sym, ap, ap₂, ◌∙◌}
use mathlib.Core.Bool.{true}
use mathlib.Core.List.{List, ◌++◌}
use Prim.Native.Nat.{ℕ, zero, suc, ◌+◌, ◌-◌, ◌*◌, ◌/◌, ◌%◌, ◌^◌, ◌≤◌, ◌<◌}
use native.Mathlib.Nat.{zero-add}
use native.Mathlib.Omega.{arith}
use lib.Bits.{bit_xor, xor_self}
use lib.ListN.{length, get_or, drop, length-append, get_or-append}
use lib.Seq.{get_or-append-add, get_or-drop}
use Rattle.forms.specs.Lists.{tabulate, xor_sum, words_from}
use Rattle.forms.specs.Words.{byte, join, rotl, words, bytes}
use Rattle.forms.proofs.Lists.{length_tabulate, tabulate_cong, tabulated, tabulate_add}
use Rattle.forms.proofs.Sums.{xor_sum_cong, xor_sum_lt}
use Rattle.forms.proofs.Words.{byte_lt, word_ext, join_cong, byte_rotl, rotl_lt, rotl_xor}
use Rattle.forms.proofs.Bytes.{Small, get_d_words}
use Rattle.labyrinth.specs.Blocks.{Block, load, store}
use Rattle.labyrinth.specs.Working.{eight_tables, share, lookup_in}
use Rattle.labyrinth.specs.Groups.{in_memory, lookup_four}
use Rattle.labyrinth.proofs.Blocks.{pair}
use Rattle.labyrinth.proofs.Permutation.{xor_sum_eight}
use Rattle.labyrinth.proofs.Rounds.{Sized}
use Rattle.labyrinth.proofs.Agree.{share_eight}

-- ---- the halves of 2n words

-- the block that they are
unfoldable pub block_at : ℕ → List ℕ → Block
block_at n x = (words_from n n x, words_from n 0 x)

pub block_at_sized : (n : ℕ) (x : List ℕ) → Sized n (block_at n x)
unfolding block_at words_from
block_at_sized n x = record { left = length_tabulate n _; right = length_tabulate n _ }

block_at_append : (n : ℕ) (a b : List ℕ) → length a ≡ n → length b ≡ n → block_at n (a ++ b) ≡ (b, a)
unfolding block_at words_from
block_at_append n a b e f =
    pair
    (sym (tabulated n (λ i. get_or (a ++ b) (n + i) 0) 0 b f (λ i l. sym (ap (λ (k : ℕ). get_or (a ++ b) (k + i) 0) (sym e) ∙ get_or-append-add a b i 0))))
    (sym (tabulated n (λ i. get_or (a ++ b) (0 + i) 0) 0 a e (λ i l. sym (ap (λ (k : ℕ). get_or (a ++ b) k 0) (zero-add i) ∙ get_or-append a b 0 i (omega arith)))))

block_at_words : (n : ℕ) (bs : List ℕ) → block_at n (words (2 * n) bs) ≡ load n bs
unfolding block_at words_from load words
block_at_words n bs =
    pair
    (tabulate_cong n (λ i. get_or (words (2 * n) bs) (n + i) 0) (λ j. join 8 (λ b. get_or (drop (8 * n) bs) (8 * j + b) 0))
    (λ i l. get_d_words (2 * n) bs (n + i) (omega arith)
    ∙ join_cong 8 (λ b. get_or bs (8 * (n + i) + b) 0) (λ b. get_or (drop (8 * n) bs) (8 * i + b) 0)
    (λ b m. ap (λ (k : ℕ). get_or bs k 0) (omega arith) ∙ sym (get_or-drop (8 * n) bs (8 * i + b) 0))))
    (tabulate_cong n (λ i. get_or (words (2 * n) bs) (0 + i) 0) (λ j. join 8 (λ b. get_or bs (8 * j + b) 0))
    (λ i l. ap (λ (k : ℕ). get_or (words (2 * n) bs) k 0) (zero-add i) ∙ get_d_words (2 * n) bs i (omega arith)))

-- ---- a map at the block

pub in_memory_length : (n : ℕ) (f : Block → Block) (x : List ℕ) → Sized n (f (block_at n x)) → length (in_memory n f x) ≡ 2 * n
unfolding in_memory block_at
in_memory_length n f x z =
    let s : Block = f (block_at n x) in
    length-append s.1 s.0 ∙ omega (arith, z.left, z.right)

-- the block as it is
pub in_memory_same : (n : ℕ) (x : List ℕ) → length x ≡ 2 * n → in_memory n (λ s. s) x ≡ x
unfolding in_memory words_from
in_memory_same n x e =
    ap (λ (y : List ℕ). y ++ tabulate n (λ i. get_or x (n + i) 0)) (tabulate_cong n (λ i. get_or x (0 + i) 0) (λ i. get_or x i 0) (λ i l. ap (λ (k : ℕ). get_or x k 0) (zero-add i)))
    ∙ sym (tabulated (n + n) (λ i. get_or x i 0) 0 x (omega arith) (λ i l. refl) ∙ tabulate_add n n (λ i. get_or x i 0))

-- one map after another
pub in_memory_in_memory : (n : ℕ) (f g : Block → Block) (x : List ℕ) → Sized n (g (block_at n x)) → in_memory n f (in_memory n g x) ≡ in_memory n (λ s. f (g s)) x
unfolding in_memory block_at
in_memory_in_memory n f g x z =
    let s : Block = g (block_at n x) in
    ap (λ (s : Block). (f s).1 ++ (f s).0) (block_at_append n s.1 s.0 z.right z.left)

-- ---- the block's bytes

bytes_append : (n : ℕ) (a b : List ℕ) → length a ≡ n → bytes (2 * n) (a ++ b) ≡ bytes n a ++ bytes n b
unfolding bytes
bytes_append n a b e =
    ap (λ (k : ℕ). tabulate k byte_at) (omega arith) ∙ tabulate_add (8 * n) (8 * n) byte_at
    ∙ ap₂ ◌++◌
    (tabulate_cong (8 * n) byte_at (λ i. byte (get_or a (i / 8) 0) (i % 8)) (λ i l. ap (λ (w : ℕ). byte w (i % 8)) (get_or-append a b 0 (i / 8) (omega arith))))
    (tabulate_cong (8 * n) (λ i. byte_at (8 * n + i)) (λ i. byte (get_or b (i / 8) 0) (i % 8))
    (λ i l.
    let d : (8 * n + i) / 8 ≡ length a + i / 8 = omega arith in
    let m : (8 * n + i) % 8 ≡ i % 8 = omega arith in
    ap₂ (λ (p q : ℕ). byte (get_or (a ++ b) p 0) q) d m ∙ ap (λ (w : ℕ). byte w (i % 8)) (get_or-append-add a b (i / 8) 0)))
  where
    byte_at : ℕ → ℕ
    byte_at i = byte (get_or (a ++ b) (i / 8) 0) (i % 8)

-- a map at the block that bytes hold
pub in_memory_bytes : (n : ℕ) (f : Block → Block) (bs : List ℕ) → Sized n (f (load n bs)) → bytes (2 * n) (in_memory n f (words (2 * n) bs)) ≡ store n (f (load n bs))
unfolding in_memory store block_at
in_memory_bytes n f bs z =
    ap (λ (s : Block). bytes (2 * n) ((f s).1 ++ (f s).0)) (block_at_words n bs) ∙ bytes_append n (f (load n bs)).1 (f (load n bs)).0 z.right

-- ---- look-up in the first four of eight tables

rotl_xor_sum : (k n : ℕ) (f : ℕ → ℕ) → k ≤ 64 → ((b : ℕ) → b < n → f b < 2 ^ 64) → rotl (xor_sum n f) k ≡ xor_sum n (λ b. rotl (f b) k)
unfolding xor_sum
rotl_xor_sum k zero f h small = rotl_xor 0 0 k h (omega arith) (omega arith) ∙ xor_self (rotl 0 k)
rotl_xor_sum k (suc n) f h small =
    rotl_xor (xor_sum n f) (f n) k h (xor_sum_lt 64 n f (λ b l. small b (omega arith))) (small n (omega arith))
    ∙ ap (λ (x : ℕ). bit_xor x (rotl (f n) k)) (rotl_xor_sum k n f h (λ b l. small b (omega arith)))

-- on by b bytes, and on by four
rotl_four : (w b : ℕ) → b < 4 → w < 2 ^ 64 → rotl (rotl w (8 * b)) 32 ≡ rotl w (8 * (b + 4))
rotl_four w b h hw =
    let r : rotl w (8 * b) < 2 ^ 64 = rotl_lt w (8 * b) (omega arith) hw in
    word_ext (rotl (rotl w (8 * b)) 32) (rotl w (8 * (b + 4))) (rotl_lt (rotl w (8 * b)) 32 (omega arith) r) (rotl_lt w (8 * (b + 4)) (omega arith) hw)
    (λ i l. byte_rotl (rotl w (8 * b)) 4 i r (omega arith) l ∙ byte_rotl w b ((i + 8 - 4) % 8) hw (omega arith) (omega arith)
    ∙ ap (byte w) (omega arith) ∙ sym (byte_rotl w (b + 4) i hw (omega arith) l))

-- the four give what the eight give
pub four_give : (t : List ℕ) → Small t → (w : ℕ) → lookup_four (eight_tables t) w ≡ lookup_in true (eight_tables t) w
unfolding lookup_four lookup_in share
four_give t small w =
    ap (bit_xor (xor_sum 4 f))
    (rotl_xor_sum 32 4 g (omega arith) (λ b l. rw (one b (byte w (b + 4)) (omega arith) (byte_lt w (b + 4))) (rotl_lt (get_or t (byte w (b + 4)) 0) (8 * b) (omega arith) (small (byte w (b + 4)))))
    ∙ xor_sum_cong 4 (λ b. rotl (g b) 32) (λ b. f (b + 4))
    (λ b l. ap (λ (x : ℕ). rotl x 32) (one b (byte w (b + 4)) (omega arith) (byte_lt w (b + 4)))
    ∙ rotl_four (get_or t (byte w (b + 4)) 0) b l (small (byte w (b + 4)))
    ∙ sym (one (b + 4) (byte w (b + 4)) (omega arith) (byte_lt w (b + 4)))))
    ∙ xor_sum_eight f
  where
    f : ℕ → ℕ
    f b = share true (eight_tables t) b (byte w b)

    g : ℕ → ℕ
    g b = share true (eight_tables t) b (byte w (b + 4))

    one : (b x : ℕ) → b < 8 → x < 2 ^ 8 → share true (eight_tables t) b x ≡ rotl (get_or t x 0) (8 * b)
    one b x l m = share_eight t b x l m
