-- Laws of a buffer with a part put into it: words and bytes one after another.
-- Assumes nothing.
use mathlib.Core.Path.{◌≡◌, sym, ap, ap₂, ◌∙◌}
use mathlib.Core.List.{List, [], ◌∷◌, ◌++◌, append_assoc}
use Prim.Native.Nat.{ℕ, ◌+◌, ◌-◌, ◌*◌, ◌/◌, ◌%◌, ◌≤◌, ◌<◌}
use native.Mathlib.Nat.{add-zero, add_assoc}
use native.Mathlib.Numerals.{add-one, add-two, add-three, add-four, add_five, add_six, add_seven}
use native.Mathlib.Omega.{arith}
use lib.ListN.{length, get_or, take, drop, set, length-append, length-drop, take-append-drop}
use lib.Seq.{take_at, drop_at, drop-drop, length-take-le, set_split, sets-eq}
use Rattle.forms.specs.Lists.{tabulate, words_from}
use Rattle.forms.specs.Words.{byte, join, bytes}
use Rattle.forms.proofs.Lists.{length_tabulate, tabulate_cong, tabulate_add}

-- ---- a buffer with a part put into it

-- xs, of length m, put into d at a place
abbrev pub put : ℕ → ℕ → List ℕ → List ℕ → List ℕ
put at m xs d = take at d ++ (xs ++ drop (at + m) d)

module _ (d xs : List ℕ) (at m : ℕ) (e : length xs ≡ m) (h : at + m ≤ length d) where
  front_length : length (take at d ++ xs) ≡ at + m
  front_length = length-append (take at d) xs ∙ ap₂ ◌+◌ (length-take-le at d (omega arith)) e

  take_put : take (at + m) (put at m xs d) ≡ take at d ++ xs
  take_put = rw (← append_assoc (take at d) xs (drop (at + m) d)) (take_at (take at d ++ xs) (drop (at + m) d) (at + m) front_length)

  drop_put : (k : ℕ) → drop (at + m + k) (put at m xs d) ≡ drop (at + m + k) d
  drop_put k =
      sym (drop-drop k (at + m) (put at m xs d))
      ∙ ap (drop k) (rw (← append_assoc (take at d) xs (drop (at + m) d)) (drop_at (take at d ++ xs) (drop (at + m) d) (at + m) front_length))
      ∙ drop-drop k (at + m) d

  pub length_put : length (put at m xs d) ≡ length d
  length_put = simp (length-append, length-drop) (omega (arith, e, length-take-le at d (omega arith)))

  -- one part, and one more behind it
  pub put_put : (ys : List ℕ) (k : ℕ) → put (at + m) k ys (put at m xs d) ≡ put at (m + k) (xs ++ ys) d
  put_put ys k =
      ap₂ (λ (x y : List ℕ). x ++ (ys ++ y)) take_put (drop_put k)
      ∙ append_assoc (take at d) xs (ys ++ drop (at + m + k) d)
      ∙ ap (λ (x : List ℕ). take at d ++ x) (sym (append_assoc xs ys (drop (at + m + k) d)))
      ∙ ap (λ (x : ℕ). take at d ++ ((xs ++ ys) ++ drop x d)) (add_assoc at m k)

pub put_none : (d : List ℕ) (at : ℕ) → d ≡ put at 0 [] d
put_none d at = sym (take-append-drop at d) ∙ ap (λ (x : ℕ). take at d ++ drop x d) (sym (add-zero at))

-- more of what is tabulated, behind what was put
pub put_next : (f : ℕ → ℕ) (d d' : List ℕ) (at m k : ℕ) → at + (m + k) ≤ length d → d' ≡ put at m (tabulate m f) d
    → put (at + m) k (tabulate k (λ i. f (m + i))) d' ≡ put at (m + k) (tabulate (m + k) f) d
put_next f d d' at m k h e =
    ap (put (at + m) k (tabulate k (λ i. f (m + i)))) e
    ∙ put_put d (tabulate m f) at m (length_tabulate m f) (omega arith) (tabulate k (λ i. f (m + i))) k
    ∙ ap (λ (x : List ℕ). put at (m + k) x d) (sym (tabulate_add m k f))

-- one word
pub put_one : (d : List ℕ) (at v : ℕ) → at < length d → set d at v ≡ put at 1 (v ∷ []) d
put_one d at v h = set_split d at v h ∙ ap (λ (x : ℕ). take at d ++ (v ∷ drop x d)) (sym (add-one at))

-- the eight bytes of a word, one by one
pub put_word : (d : List ℕ) (at w : ℕ) {a b c e f g h k : ℕ} → at + 8 ≤ length d
    → a ≡ byte w 0 → b ≡ byte w 1 → c ≡ byte w 2 → e ≡ byte w 3 → f ≡ byte w 4 → g ≡ byte w 5 → h ≡ byte w 6 → k ≡ byte w 7
    → set (set (set (set (set (set (set (set d at a) (at + 1) b) (at + 2) c) (at + 3) e) (at + 4) f) (at + 5) g) (at + 6) h) (at + 7) k
    ≡ put at 8 (tabulate 8 (byte w)) d
unfolding tabulate
put_word d at w l e₀ e₁ e₂ e₃ e₄ e₅ e₆ e₇ =
    rw (e₀, e₁, e₂, e₃, e₄, e₅, e₆, e₇, add-one, add-two, add-three, add-four, add_five, add_six, add_seven)
    (sets-eq (tabulate 8 (byte w)) d at l ∙ append_assoc (take at d) (tabulate 8 (byte w)) (drop (at + 8) d))

-- ---- words and bytes in a buffer

pub put_words : (from : ℕ) (ws d d' : List ℕ) (at j : ℕ) → at + j < length d → d' ≡ put at j (words_from j from ws) d
    → set d' (at + j) (get_or ws (from + j) 0) ≡ put at (j + 1) (words_from (j + 1) from ws) d
unfolding words_from tabulate
put_words from ws d d' at j h e =
    put_one d' (at + j) (get_or ws (from + j) 0) (rw (e, length_put d (words_from j from ws) at j (length_tabulate j _) (omega arith)) h)
    ∙ ap (λ (x : ℕ). put (at + j) 1 (get_or ws (from + x) 0 ∷ []) d') (sym (add-zero j))
    ∙ put_next (λ i. get_or ws (from + i) 0) d d' at j 1 (omega arith) e

pub put_bytes : (y d d' : List ℕ) (at j w : ℕ) → at + 8 * (j + 1) ≤ length d → w ≡ get_or y j 0 → d' ≡ put at (8 * j) (bytes j y) d
    → put (at + 8 * j) 8 (tabulate 8 (byte w)) d' ≡ put at (8 * (j + 1)) (bytes (j + 1) y) d
unfolding bytes
put_bytes y d d' at j w h p e =
    let f : ℕ → ℕ = λ i. byte (get_or y (i / 8) 0) (i % 8) in
    let q : 8 * j + 8 ≡ 8 * (j + 1) = omega arith in
    ap (λ (x : List ℕ). put (at + 8 * j) 8 x d')
    (tabulate_cong 8 (byte w) (λ i. f (8 * j + i))
    (λ i l. let a : j ≡ (8 * j + i) / 8 = omega arith in let b : i ≡ (8 * j + i) % 8 = omega arith in ap₂ byte (p ∙ ap (λ (x : ℕ). get_or y x 0) a) b))
    ∙ put_next f d d' at (8 * j) 8 (omega arith) e
    ∙ ap (λ (m : ℕ). put at m (tabulate m f) d) q

-- a word as the code sums it up
pub join_eight : (g : ℕ → ℕ) {a b c d e f h k : ℕ} → a ≡ g 0 → b ≡ g 1 → c ≡ g 2 → d ≡ g 3 → e ≡ g 4 → f ≡ g 5 → h ≡ g 6 → k ≡ g 7
    → a + 0x100 * b + 0x10000 * c + 0x1000000 * d + 0x100000000 * e + 0x10000000000 * f + 0x1000000000000 * h + 0x100000000000000 * k ≡ join 8 g
unfolding join
join_eight g e₀ e₁ e₂ e₃ e₄ e₅ e₆ e₇ = omega arith
