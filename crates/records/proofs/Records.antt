-- Nothing is lost at the boundary: a record that is written and read back is itself, and so are bytes that are read and written back.
-- Assumes nothing.
use mathlib.Core.Path.{◌≡◌, refl, sym, ap, ap₂, ◌∙◌}
use mathlib.Core.List.{List, [], ◌∷◌, ◌++◌, append_assoc}
use Prim.Native.Nat.{ℕ, zero, suc, ◌+◌, ◌*◌, ◌^◌, ◌≤◌, ◌<◌}
use native.Mathlib.Nat.{add_assoc}
use native.Mathlib.Omega.{arith}
use lib.ListN.{length, get_or, drop, length-append, length-drop, get_or-append}
use lib.Seq.{get_or-drop, get_or-append-add, ext_get_or}
use Rattle.forms.specs.Lists.{tabulate, words_from}
use Rattle.forms.specs.Words.{join, words, bytes}
use Rattle.forms.proofs.Lists.{length_tabulate, get_d_tabulate, tabulate_cong, tabulated, tabulate_add}
use Rattle.forms.proofs.Words.{join_cong}
use Rattle.forms.proofs.Bytes.{Bytes, Small, Good, length_bytes, length_words, get_d_words, words_bytes, bytes_words, drop_bytes}
use Rattle.buffers.specs.Words.{word_at}
use Rattle.buffers.proofs.Words.{word_at_lem}
use Rattle.labyrinth.specs.declared.WorkingKey.{WorkingKey}
use Rattle.sets.specs.declared.Set.{Set}
use Rattle.sets.specs.declared.Store.{Store}
use Rattle.sets.specs.Sets.{nowhere}
use Rattle.records.specs.Records.{key_in, key_bytes, set_at, store_in, set_bytes, store_bytes}

-- ---- numbers

-- word j of bytes, which have room for m
word_there : (b : List ℕ) (m j : ℕ) → 8 * m ≤ length b → j < m → word_at b (8 * j) ≡ get_or (words m b) j 0
word_there b m j h l = word_at_lem b (8 * j) (omega arith) ∙ sym (get_d_words m b j l)

-- word j of m
word_in : (x : List ℕ) (m j : ℕ) → Good m x → j < m → word_at (bytes m x) (8 * j) ≡ get_or x j 0
word_in x m j g l =
    word_there (bytes m x) m j (omega (arith, length_bytes m x)) l ∙ ap (λ (y : List ℕ). get_or y j 0) (words_bytes m x g)

-- a word behind other bytes
word_behind : (a b : List ℕ) (at : ℕ) → at + 8 ≤ length b → word_at (a ++ b) (length a + at) ≡ word_at b at
word_behind a b at h =
    word_at_lem (a ++ b) (length a + at) (omega (arith, length-append a b))
    ∙ join_cong 8 (λ i. get_or (a ++ b) (length a + at + i) 0) (λ i. get_or b (at + i) 0)
    (λ i l. ap (λ (k : ℕ). get_or (a ++ b) k 0) (add_assoc (length a) at i) ∙ get_or-append-add a b (at + i) 0)
    ∙ sym (word_at_lem b at h)

-- ---- a working key

pub length_key_bytes : (k : WorkingKey) → length (key_bytes k) ≡ 272
unfolding key_bytes
length_key_bytes k = length_bytes 34 (k.n ∷ k.set ∷ k.words)

-- every word has its eight bytes
pub record Fitting (k : WorkingKey) : Type 0 where
  pub n : k.n < 2 ^ 64
  pub set : k.set < 2 ^ 64
  pub words : Good 32 k.words

pub key_in_key_bytes : (k : WorkingKey) → Fitting k → key_in (key_bytes k) ≡ k
unfolding key_in key_bytes
key_in_key_bytes k f = same (word_in x 34 0 good (omega arith)) (word_in x 34 1 good (omega arith)) rest
  where
    x : List ℕ
    x = k.n ∷ k.set ∷ k.words

    small : Small x
    small zero = f.n
    small (suc zero) = f.set
    small (suc (suc i)) = f.words.small i

    good : Good 34 x
    good = record { len = ap (λ (m : ℕ). suc (suc m)) f.words.len; small = small }

    rest : tabulate 32 (λ j. word_at (bytes 34 x) (16 + 8 * j)) ≡ k.words
    rest =
        sym (tabulated 32 (λ j. word_at (bytes 34 x) (16 + 8 * j)) 0 k.words f.words.len (λ j l.
        let e : 8 * suc (suc j) ≡ 16 + 8 * j = omega arith in
        sym (ap (word_at (bytes 34 x)) (sym e) ∙ word_in x 34 (suc (suc j)) good (omega arith))))

    made : ℕ → ℕ → List ℕ → WorkingKey
    made n set ws = record { n = n; set = set; words = ws }

    same : {n set : ℕ} {ws : List ℕ} → n ≡ k.n → set ≡ k.set → ws ≡ k.words → made n set ws ≡ k
    same p q r = rw (p, q, r) refl

pub key_bytes_key_in : (b : List ℕ) → length b ≡ 272 → Bytes b → key_bytes (key_in b) ≡ b
unfolding key_in key_bytes
key_bytes_key_in b h small = ap (bytes 34) (ext_get_or 0 y (words 34 b) (sizes) each) ∙ bytes_words 34 b h small
  where
    ws : List ℕ
    ws = tabulate 32 (λ j. word_at b (16 + 8 * j))

    y : List ℕ
    y = word_at b 0 ∷ word_at b 8 ∷ ws

    long : length y ≡ 34
    long = ap (λ (m : ℕ). suc (suc m)) (length_tabulate 32 (λ j. word_at b (16 + 8 * j)))

    sizes : length y ≡ length (words 34 b)
    sizes = long ∙ sym (length_words 34 b)

    each : (i : ℕ) → i < length y → get_or y i 0 ≡ get_or (words 34 b) i 0
    each zero l = word_there b 34 0 (omega arith) (omega arith)
    each (suc zero) l = word_there b 34 1 (omega arith) (omega arith)
    each (suc (suc j)) l =
        let m : j < 32 = omega (arith, long) in
        let e : 16 + 8 * j ≡ 8 * suc (suc j) = omega arith in
        get_d_tabulate 32 (λ j. word_at b (16 + 8 * j)) 0 j m ∙ ap (word_at b) e ∙ word_there b 34 (suc (suc j)) (omega arith) (omega arith)

-- ---- a store

-- four sets of 256 and 8 bytes, and two numbers
pub record Whole (st : Store) : Type 0 where
  pub sets : length st.sets ≡ 4
  pub substitution : (i : ℕ) → i < 4 → length (get_or st.sets i nowhere).substitution ≡ 256
  pub row : (i : ℕ) → i < 4 → length (get_or st.sets i nowhere).row ≡ 8
  pub taken : Good 2 st.taken

-- a part that stands behind another
part_in : (a x b : List ℕ) (at n : ℕ) → length a ≡ at → length x ≡ n → words_from n at (a ++ (x ++ b)) ≡ x
unfolding words_from
part_in a x b at n p q =
    sym (tabulated n (λ i. get_or (a ++ (x ++ b)) (at + i) 0) 0 x q (λ i l.
    sym (ap (λ (k : ℕ). get_or (a ++ (x ++ b)) (k + i) 0) (sym p) ∙ get_or-append-add a (x ++ b) i 0 ∙ front i (omega arith))))
  where
    front : (i : ℕ) → i < length x → get_or (x ++ b) i 0 ≡ get_or x i 0
    front i l = get_or-append x b 0 i l

set_in_lem : (a b : List ℕ) (at : ℕ) (v : Set) → length a ≡ at → length v.substitution ≡ 256 → length v.row ≡ 8 → set_at (a ++ (set_bytes v ++ b)) at ≡ v
unfolding set_at set_bytes
set_in_lem a b at v p q r = ap₂ made first second
  where
    made : List ℕ → List ℕ → Set
    made s g = record { substitution = s; row = g }

    s : List ℕ
    s = v.substitution

    g : List ℕ
    g = v.row

    first : words_from 256 at (a ++ ((s ++ g) ++ b)) ≡ s
    first = ap (λ (x : List ℕ). words_from 256 at (a ++ x)) (append_assoc s g b) ∙ part_in a s (g ++ b) at 256 p q

    second : words_from 8 (at + 256) (a ++ ((s ++ g) ++ b)) ≡ g
    second =
        ap (words_from 8 (at + 256)) (ap (λ (x : List ℕ). a ++ x) (append_assoc s g b) ∙ sym (append_assoc a s (g ++ b)))
        ∙ part_in (a ++ s) g b (at + 256) 8 (length-append a s ∙ ap₂ ◌+◌ p q) r

module _ (st : Store) (w : Whole st) where
  S : ℕ → List ℕ
  S i = set_bytes (get_or st.sets i nowhere)

  long : (i : ℕ) → i < 4 → length (S i) ≡ 264
  unfolding set_bytes S
  long i l = length-append (get_or st.sets i nowhere).substitution (get_or st.sets i nowhere).row ∙ ap₂ ◌+◌ (w.substitution i l) (w.row i l)

  pub length_store_bytes : length (store_bytes st) ≡ 1072
  unfolding store_bytes S
  length_store_bytes =
      simp length-append (omega (arith, long 0 (omega arith), long 1 (omega arith), long 2 (omega arith), long 3 (omega arith), length_bytes 2 st.taken))

  -- set i behind those before it
  set_of : (i : ℕ) (l : i < 4) (a b : List ℕ) (at : ℕ) → length a ≡ at → set_at (a ++ (S i ++ b)) at ≡ get_or st.sets i nowhere
  unfolding S
  set_of i l a b at p = set_in_lem a b at (get_or st.sets i nowhere) p (w.substitution i l) (w.row i l)

  T : List ℕ
  T = bytes 2 st.taken

  -- the bytes with a set, or what is taken, behind those before it
  from_one : store_bytes st ≡ S 0 ++ (S 1 ++ (S 2 ++ (S 3 ++ T)))
  unfolding store_bytes S T
  from_one = refl

  from_two : store_bytes st ≡ (S 0 ++ S 1) ++ (S 2 ++ (S 3 ++ T))
  from_two = from_one ∙ sym (append_assoc (S 0) (S 1) (S 2 ++ (S 3 ++ T)))

  from_three : store_bytes st ≡ ((S 0 ++ S 1) ++ S 2) ++ (S 3 ++ T)
  from_three = from_two ∙ sym (append_assoc (S 0 ++ S 1) (S 2) (S 3 ++ T))

  from_four : store_bytes st ≡ (((S 0 ++ S 1) ++ S 2) ++ S 3) ++ T
  from_four = from_three ∙ sym (append_assoc ((S 0 ++ S 1) ++ S 2) (S 3) T)

  long_two : length (S 0 ++ S 1) ≡ 528
  long_two = length-append (S 0) (S 1) ∙ ap₂ ◌+◌ (long 0 (omega arith)) (long 1 (omega arith))

  long_three : length ((S 0 ++ S 1) ++ S 2) ≡ 792
  long_three = length-append (S 0 ++ S 1) (S 2) ∙ ap₂ ◌+◌ long_two (long 2 (omega arith))

  long_four : length (((S 0 ++ S 1) ++ S 2) ++ S 3) ≡ 1056
  long_four = length-append ((S 0 ++ S 1) ++ S 2) (S 3) ∙ ap₂ ◌+◌ long_three (long 3 (omega arith))

  taken_of : (j : ℕ) → j < 2 → word_at (store_bytes st) (1056 + 8 * j) ≡ get_or st.taken j 0
  unfolding T
  taken_of j l =
      let f : List ℕ = ((S 0 ++ S 1) ++ S 2) ++ S 3 in
      ap₂ word_at from_four (ap (λ (k : ℕ). k + 8 * j) (sym long_four))
      ∙ word_behind f T (8 * j) (omega (arith, length_bytes 2 st.taken))
      ∙ word_in st.taken 2 j w.taken l

  pub store_in_store_bytes : store_in (store_bytes st) ≡ st
  unfolding store_in
  store_in_store_bytes =
      same (ap (λ (x : List ℕ). set_at x 0) from_one ∙ set_of 0 (omega arith) [] (S 1 ++ (S 2 ++ (S 3 ++ T))) 0 refl)
      (ap (λ (x : List ℕ). set_at x 264) from_one ∙ set_of 1 (omega arith) (S 0) (S 2 ++ (S 3 ++ T)) 264 (long 0 (omega arith)))
      (ap (λ (x : List ℕ). set_at x 528) from_two ∙ set_of 2 (omega arith) (S 0 ++ S 1) (S 3 ++ T) 528 long_two)
      (ap (λ (x : List ℕ). set_at x 792) from_three ∙ set_of 3 (omega arith) ((S 0 ++ S 1) ++ S 2) T 792 long_three)
      (taken_of 0 (omega arith)) (taken_of 1 (omega arith))
    where
      made : Set → Set → Set → Set → ℕ → ℕ → Store
      made a b c d t u = record { sets = a ∷ b ∷ c ∷ d ∷ []; taken = t ∷ u ∷ [] }

      kept : List Set → List ℕ → Store
      kept vs ts = record { sets = vs; taken = ts }

      v : ℕ → Set
      v i = get_or st.sets i nowhere

      t : ℕ → ℕ
      t i = get_or st.taken i 0

      four : v 0 ∷ v 1 ∷ v 2 ∷ v 3 ∷ [] ≡ st.sets
      four = ext_get_or nowhere (v 0 ∷ v 1 ∷ v 2 ∷ v 3 ∷ []) st.sets (sym w.sets) each
        where
          each : (i : ℕ) → i < 4 → get_or (v 0 ∷ v 1 ∷ v 2 ∷ v 3 ∷ []) i nowhere ≡ get_or st.sets i nowhere
          each zero l = refl
          each (suc zero) l = refl
          each (suc (suc zero)) l = refl
          each (suc (suc (suc zero))) l = refl
          each (suc (suc (suc (suc i)))) l = let z : ⊥ = omega arith in absurd z

      two : t 0 ∷ t 1 ∷ [] ≡ st.taken
      two = ext_get_or 0 (t 0 ∷ t 1 ∷ []) st.taken (sym w.taken.len) each
        where
          each : (i : ℕ) → i < 2 → get_or (t 0 ∷ t 1 ∷ []) i 0 ≡ get_or st.taken i 0
          each zero l = refl
          each (suc zero) l = refl
          each (suc (suc i)) l = let z : ⊥ = omega arith in absurd z

      same : {a b c d : Set} {x y : ℕ} → a ≡ v 0 → b ≡ v 1 → c ≡ v 2 → d ≡ v 3 → x ≡ t 0 → y ≡ t 1 → made a b c d x y ≡ st
      same p q r s x y = rw (p, q, r, s, x, y) (ap₂ kept four two)

words_from_add : (m k at : ℕ) (b : List ℕ) → words_from m at b ++ words_from k (at + m) b ≡ words_from (m + k) at b
unfolding words_from
words_from_add m k at b =
    sym (tabulate_add m k (λ i. get_or b (at + i) 0)
    ∙ ap (λ (x : List ℕ). tabulate m (λ i. get_or b (at + i) 0) ++ x)
    (tabulate_cong k (λ i. get_or b (at + (m + i)) 0) (λ i. get_or b (at + m + i) 0) (λ i l. ap (λ (j : ℕ). get_or b j 0) (sym (add_assoc at m i)))))

-- from one place to the end
words_from_end : (n at : ℕ) (b : List ℕ) → length b ≡ at + n → words_from n at b ≡ drop at b
unfolding words_from
words_from_end n at b h =
    sym (tabulated n (λ i. get_or b (at + i) 0) 0 (drop at b) (length-drop at b ∙ omega arith) (λ i l. get_or-drop at b i 0))

-- a set, and what is taken, as they stand
set_whole : (b : List ℕ) (at : ℕ) → set_bytes (set_at b at) ≡ words_from 264 at b
unfolding set_bytes set_at
set_whole b at = words_from_add 256 8 at b

taken_whole : (b : List ℕ) → length b ≡ 1072 → Bytes b → bytes 2 (word_at b 1056 ∷ word_at b 1064 ∷ []) ≡ words_from 16 1056 b
unfolding words tabulate
taken_whole b h small =
    ap (bytes 2) (ap₂ (λ (x y : ℕ). x ∷ y ∷ []) (there 0 (omega arith)) (there 1 (omega arith)))
    ∙ bytes_words 2 (drop 1056 b) (length-drop 1056 b ∙ omega arith) (drop_bytes 1056 b small)
    ∙ sym (words_from_end 16 1056 b h)
  where
    there : (j : ℕ) → j < 2 → word_at b (1056 + 8 * j) ≡ join 8 (λ i. get_or (drop 1056 b) (8 * j + i) 0)
    there j l =
        word_at_lem b (1056 + 8 * j) (omega arith)
        ∙ join_cong 8 (λ i. get_or b (1056 + 8 * j + i) 0) (λ i. get_or (drop 1056 b) (8 * j + i) 0)
        (λ i m. ap (λ (k : ℕ). get_or b k 0) (add_assoc 1056 (8 * j) i) ∙ sym (get_or-drop 1056 b (8 * j + i) 0))

pub store_bytes_store_in : (b : List ℕ) → length b ≡ 1072 → Bytes b → store_bytes (store_in b) ≡ b
unfolding store_in store_bytes
store_bytes_store_in b h small =
    rw (set 0, set 264, set 528, set 792, taken)
    (ap (λ (x : List ℕ). W 0 ++ (W 264 ++ (W 528 ++ x))) (words_from_add 264 16 792 b)
    ∙ ap (λ (x : List ℕ). W 0 ++ (W 264 ++ x)) (words_from_add 264 280 528 b)
    ∙ ap (λ (x : List ℕ). W 0 ++ x) (words_from_add 264 544 264 b)
    ∙ words_from_add 264 808 0 b
    ∙ words_from_end 1072 0 b h)
  where
    W : ℕ → List ℕ
    W at = words_from 264 at b

    set : (at : ℕ) → set_bytes (set_at b at) ≡ words_from 264 at b
    set at = set_whole b at

    taken : bytes 2 (word_at b 1056 ∷ word_at b 1064 ∷ []) ≡ words_from 16 1056 b
    taken = taken_whole b h small
