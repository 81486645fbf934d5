-- Links by the wider forms: a block in words of what is XORed and to bytes, and what is made of the lent ones.
-- Assumes nothing.
use mathlib.Core.Path.{◌≡◌, refl, sym, ap, ap₂, ◌∙◌, fun_ext}
use mathlib.Core.Bool.{Bool, true, ◌&&◌}
use mathlib.Core.List.{List, [], ◌∷◌, ◌++◌, append-nil}
use Prim.Native.Nat.{ℕ, zero, suc, ◌+◌, ◌*◌, ◌/◌, ◌%◌, ◌^◌, ◌≤◌, ◌<◌}
use native.Mathlib.Nat.{mod-eq_of_lt}
use native.Mathlib.Omega.{arith}
use lib.Bits.{bit_xor, xor_lt}
use borrow.Author.Tests.{eq-eqb}
use lib.Dec.{eqb}
use lib.ListN.{length, get_or, take, drop, length-append, length-drop, drop_of_length-le}
use lib.Seq.{take_all, length-take-le}
use Rattle.forms.specs.Lists.{tabulate, when}
use Rattle.forms.specs.Words.{byte, join, words, bytes}
use Rattle.forms.specs.Strings.{xor_bytes}
use Rattle.forms.proofs.Lists.{tabulate_cong}
use Rattle.forms.proofs.Words.{join_lt, join_byte, join_cong}
use Rattle.forms.proofs.Bytes.{Bytes, Small, length_bytes, get_or_bytes}
use Rattle.forms.proofs.Strings.{length_xor_bytes}
use Rattle.labyrinth.specs.Blocks.{Block, load, store}
use Rattle.labyrinth.specs.Working.{eight_tables}
use Rattle.labyrinth.specs.Groups.{in_memory, lookup_four, spaced, spaced_sub, line_by, four_lent, wide_lent}
use Rattle.labyrinth.specs.Lent.{lent}
use Rattle.labyrinth.proofs.Rounds.{Sized}
use Rattle.labyrinth.proofs.Spaced.{leave_sized}
use Rattle.labyrinth.proofs.InMemory.{in_memory_bytes, four_give}
use Rattle.labyrinth.proofs.Lent.{lent_wide}
use Rattle.buffers.specs.Words.{word_at, with_word}
use Rattle.buffers.proofs.Words.{word_at_lem}
use Rattle.strings.proofs.Laying.{lay_word, xor_word}

-- ---- m words of two strings, XORed

unfoldable pub mixed : ℕ → List ℕ → List ℕ → List ℕ
mixed m a b = tabulate m (λ j. bit_xor (word_at a (8 * j)) (word_at b (8 * j)))

word_lt : (s : List ℕ) (i : ℕ) → Bytes s → i + 8 ≤ length s → word_at s i < 2 ^ 64
word_lt s i small h = rw (word_at_lem s i h) (join_lt 8 (λ b. get_or s (i + b) 0) (λ b. small (i + b)))

-- are the words of the XOR
mixed_words : (m : ℕ) (a b : List ℕ) → Bytes a → Bytes b → length a ≡ 8 * m → length b ≡ 8 * m → mixed m a b ≡ words m (xor_bytes a b)
unfolding mixed words
mixed_words m a b p q e f =
    tabulate_cong m (λ j. bit_xor (word_at a (8 * j)) (word_at b (8 * j))) (λ j. join 8 (λ k. get_or (xor_bytes a b) (8 * j + k) 0)) (λ j l.
    let w : ℕ = bit_xor (word_at a (8 * j)) (word_at b (8 * j)) in
    sym (join_cong 8 (λ k. get_or (xor_bytes a b) (8 * j + k) 0) (byte w) (xor_word a b (8 * j) p q (omega arith) (omega arith))
    ∙ join_byte 8 w ∙ mod-eq_of_lt (xor_lt 64 (word_at a (8 * j)) (word_at b (8 * j)) (word_lt a (8 * j) p (omega arith)) (word_lt b (8 * j) q (omega arith)))))

-- two of them, and four, as they are loaded
pub two_mixed : (a b : List ℕ) {p q p' q' : ℕ} → p ≡ word_at a 0 → q ≡ word_at b 0 → p' ≡ word_at a 8 → q' ≡ word_at b 8 → (bit_xor p q ∷ bit_xor p' q' ∷ []) ≡ mixed 2 a b
unfolding mixed tabulate
two_mixed a b e f e' f' = rw (e, f, e', f')

pub four_mixed : (a b : List ℕ) {p q p' q' p'' q'' p''' q''' : ℕ} → p ≡ word_at a 0 → q ≡ word_at b 0 → p' ≡ word_at a 8 → q' ≡ word_at b 8
    → p'' ≡ word_at a 16 → q'' ≡ word_at b 16 → p''' ≡ word_at a 24 → q''' ≡ word_at b 24
    → (bit_xor p q ∷ bit_xor p' q' ∷ bit_xor p'' q'' ∷ bit_xor p''' q''' ∷ []) ≡ mixed 4 a b
unfolding mixed tabulate
four_mixed a b e f e' f' e'' f'' e''' f''' = rw (e, f, e', f', e'', f'', e''', f''')

-- ---- the first k words of y, stored one after another

unfoldable pub stored : ℕ → List ℕ → List ℕ → List ℕ
stored zero y d = d
stored (suc k) y d = with_word (8 * k) (get_or y k 0) (stored k y d)

module _ (m : ℕ) (y d : List ℕ) (e : length d ≡ 8 * m) where
  -- a word more
  stored_more : (k : ℕ) → suc k ≤ m → stored k y d ≡ take (8 * k) (bytes m y) ++ drop (8 * k) d → stored (suc k) y d ≡ take (8 * suc k) (bytes m y) ++ drop (8 * suc k) d
  unfolding stored
  stored_more k h p =
      lay_word (bytes m y) d (8 * k) (get_or y k 0) (omega (arith, length_bytes m y)) (omega arith) same p at
      ∙ ap (λ (i : ℕ). take i (bytes m y) ++ drop i d) next
    where
      same : length (stored k y d) ≡ length d
      same =
          ap length p ∙ length-append (take (8 * k) (bytes m y)) (drop (8 * k) d)
          ∙ omega (arith, length-take-le (8 * k) (bytes m y) (omega (arith, length_bytes m y)), length-drop {A = ℕ} (8 * k) d)

      next : 8 * k + 8 ≡ 8 * suc k
      next = omega arith

      at : (i : ℕ) → i < 8 → get_or (bytes m y) (8 * k + i) 0 ≡ byte (get_or y k 0) i
      at i l =
          let a : (8 * k + i) / 8 ≡ k = omega arith in
          let b : (8 * k + i) % 8 ≡ i = omega arith in
          get_or_bytes m y (8 * k + i) (omega arith) ∙ ap₂ (λ (j h : ℕ). byte (get_or y j 0) h) a b

  stored_front : (k : ℕ) → k ≤ m → stored k y d ≡ take (8 * k) (bytes m y) ++ drop (8 * k) d
  unfolding stored
  stored_front zero h = refl
  stored_front (suc k) h = stored_more k h (stored_front k (omega arith))

  -- all m words over as many bytes
  stored_all : stored m y d ≡ bytes m y
  stored_all =
      stored_front m (omega arith)
      ∙ ap₂ ◌++◌ (take_all (8 * m) (bytes m y) (omega (arith, length_bytes m y))) (drop_of_length-le d {i = 8 * m} (omega arith)) ∙ append-nil _

-- two, and four
pub two_stored : (y d : List ℕ) {d' d'' : List ℕ} → d' ≡ with_word 0 (get_or y 0 0) d → d'' ≡ with_word 8 (get_or y 1 0) d' → d'' ≡ stored 2 y d
unfolding stored
two_stored y d e e' = e' ∙ ap (with_word 8 (get_or y 1 0)) e

pub four_stored : (y d : List ℕ) {d' d'' d''' d'''' : List ℕ} → d' ≡ with_word 0 (get_or y 0 0) d → d'' ≡ with_word 8 (get_or y 1 0) d'
    → d''' ≡ with_word 16 (get_or y 2 0) d'' → d'''' ≡ with_word 24 (get_or y 3 0) d''' → d'''' ≡ stored 4 y d
unfolding stored
four_stored y d e e' e'' e''' = e''' ∙ ap (with_word 24 (get_or y 3 0)) (e'' ∙ ap (with_word 16 (get_or y 2 0)) (two_stored y d e e'))

-- ---- a block chained

module _ (n : ℕ) (t s u ks : List ℕ) where
  line_sized : (b : Block) → Sized n (line_by (spaced_sub s) (spaced_sub u) (lookup_four t) n ks b)
  unfolding line_by
  line_sized b = leave_sized (spaced_sub u) n _ _

  -- the words XORed, mapped, stored
  pub link_made : (a b : List ℕ) {y out : List ℕ} → Bytes a → Bytes b → length a ≡ 16 * n → length b ≡ 16 * n
      → y ≡ in_memory n (line_by (spaced_sub s) (spaced_sub u) (lookup_four t) n ks) (mixed (2 * n) a b) → out ≡ stored (2 * n) y b
      → out ≡ four_lent n t s u ks (xor_bytes a b)
  unfolding four_lent
  link_made a b {y} p q e f g h =
      h ∙ stored_all (2 * n) y b (omega arith)
      ∙ ap (bytes (2 * n)) (g ∙ ap (in_memory n (line_by (spaced_sub s) (spaced_sub u) (lookup_four t) n ks)) (mixed_words (2 * n) a b p q (omega arith) (omega arith)))
      ∙ in_memory_bytes n (line_by (spaced_sub s) (spaced_sub u) (lookup_four t) n ks) (xor_bytes a b) (line_sized (load n (xor_bytes a b)))

  -- by the four tables, where these give what the eight give
  pub four_link : (m : ℕ) (x : List ℕ) {out : List ℕ} → n ≡ m → four_lent n t s u ks ≡ wide_lent n t s u ks → out ≡ four_lent m t s u ks x → out ≡ wide_lent n t s u ks x
  four_link m x e same p = p ∙ ap (λ (k : ℕ). four_lent k t s u ks x) (sym e) ∙ ap (λ (f : List ℕ → List ℕ). f x) same

  -- and by the eight
  pub wide_link : (m : ℕ) (x : List ℕ) {out : List ℕ} → n ≡ m → out ≡ wide_lent m t s u ks x → out ≡ wide_lent n t s u ks x
  wide_link m x e p = p ∙ ap (λ (k : ℕ). wide_lent k t s u ks x) (sym e)

-- the XOR, mapped as one block of n = 4
pub block_made : (t s u ks a b : List ℕ) {x out : List ℕ} → length a ≡ 64 → length b ≡ 64 → x ≡ xor_bytes a b
    → out ≡ when (eqb (length x) 64 && eqb (length b) 64) (wide_lent 4 t s u ks x) b → out ≡ wide_lent 4 t s u ks (xor_bytes a b)
block_made t s u ks a b {x} e f g p =
    let l : length x ≡ 64 = ap length g ∙ length_xor_bytes a b (omega arith) ∙ e in
    let both : (eqb (length x) 64 && eqb (length b) 64) ≡ true = rw (eq-eqb (length x) 64 l, eq-eqb (length b) 64 f) refl in
    p ∙ ap (λ (r : Bool). when r (wide_lent 4 t s u ks x) b) both ∙ ap (wide_lent 4 t s u ks) g

-- ---- what is made of the lent ones

-- four of the tables give what the eight give
pub made_four : (n : ℕ) (t s u ks : List ℕ) {eight : List ℕ} → eight ≡ eight_tables t → Small t → four_lent n eight s u ks ≡ wide_lent n eight s u ks
unfolding four_lent wide_lent
made_four n t s u ks e small =
    rw e (fun_ext (λ b. ap (λ (SM : ℕ → ℕ). store n (line_by (spaced_sub s) (spaced_sub u) SM n ks (load n b))) (fun_ext (four_give t small))))

-- and the eight the block map that is lent
pub made_lent : (n : ℕ) (t s u ks : List ℕ) {eight there back : List ℕ} → eight ≡ eight_tables t → length t ≡ 256 → there ≡ spaced s → Bytes s → back ≡ spaced u → Bytes u
    → wide_lent n eight there back ks ≡ lent n t s u ks
made_lent n t s u ks et lt es hs eu hu = fun_ext (λ b. rw (et, es, eu) (sym (lent_wide n t s u ks lt hs hu b)))
