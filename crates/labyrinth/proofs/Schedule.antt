-- The schedule: its half-blocks are the subkeys in the order of their use, so EF under it is E's and U's; and the order is the article's.
-- Assumes nothing.
use mathlib.Core.Path.{◌≡◌, refl, sym, ap, ap₂, ◌∙◌}
use mathlib.Core.Bool.{Bool, true, false, ◌&&◌}
use mathlib.Core.List.{List}
use Prim.Native.Nat.{ℕ, ◌+◌, ◌-◌, ◌*◌, ◌/◌, ◌%◌, ◌≤◌, ◌<◌}
use native.Mathlib.Omega.{arith}
use borrow.Author.Tests.{lt-ltb, le-ltb}
use lib.Arith.{digits_div, digits_mod, digits_lt}
use lib.Dec.{ltb, ltb→lt}
use lib.ListN.{length, get_or, drop, replicate, get_or-replicate, get_or-append}
use native.Mathlib.Nat.{mod-eq_of_lt, div-eq_of_lt, add-zero, zero-mul, mul-add-div_right, mul-add-mod_self_right}
use native.Mathlib.Decide.{dec_lt}
use lib.Seq.{get_or-drop, get_or-append-add}
use Rattle.forms.specs.Lists.{tabulate, pick, words_from}
use Rattle.forms.proofs.Tests.{tested_agree, tested_at}
use Rattle.forms.proofs.Lists.{get_d_tabulate, tabulate_cong, length_tabulate, tabulated}
use Rattle.forms.proofs.Buffers.{put, put_none, put_next, length_put}
use Rattle.labyrinth.specs.Blocks.{Block, load, store}
use Rattle.labyrinth.specs.Cipher.{Parts, FT, exchange, EF}
use Rattle.labyrinth.specs.Keys.{half, order, E, U}
use Rattle.labyrinth.specs.Refusals.{legal}
use Rattle.labyrinth.specs.Working.{Size, use_order, schedule, line, line_bytes}
use Rattle.labyrinth.proofs.Sizes.{sizes, legal_size}
use Rattle.labyrinth.proofs.Undo.{rounds_cong}

-- the order is the article's: k_i for i below 8, then k_(3i mod 8)
pub order_first : (i : ℕ) → i < 8 → get_or order i 0 ≡ i
unfolding order
order_first = tested_agree 8 (λ i. get_or order i 0) (λ i. i) tt

pub order_second : (i : ℕ) → i < 8 → get_or order (8 + i) 0 ≡ 3 * (8 + i) % 8
unfolding order
order_second = tested_agree 8 (λ i. get_or order (8 + i) 0) (λ i. 3 * (8 + i) % 8) tt

-- and backwards it is what the article gives for deciphering
pub order_back_first : (i : ℕ) → i < 8 → get_or order (15 - i) 0 ≡ 3 * (7 - i) % 8
unfolding order
order_back_first = tested_agree 8 (λ i. get_or order (15 - i) 0) (λ i. 3 * (7 - i) % 8) tt

pub order_back_second : (i : ℕ) → i < 8 → get_or order (15 - (8 + i)) 0 ≡ 7 - (8 + i) % 8
unfolding order
order_back_second = tested_agree 8 (λ i. get_or order (15 - (8 + i)) 0) (λ i. 7 - (8 + i) % 8) tt

-- ---- the schedule's half-blocks

top : (n : ℕ) → Size n → 20 * n ≤ 80
top n s = omega (arith, s.top)

pub half_schedule : (n : ℕ) → Size n → (ws : List ℕ) (back : Bool) (i : ℕ) → i < 20 → half n (schedule n ws back) i ≡ half n ws (get_or (use_order back) i 0)
unfolding half schedule pick
half_schedule n s ws back i h =
    tabulate_cong n (λ j. get_or (schedule n ws back) (i * n + j) 0) (λ j. get_or ws (get_or (use_order back) i 0 * n + j) 0)
    (λ j l.
    let m : i * n + j < 20 * n = digits_lt h l in
    let b : i * n + j < 80 = omega (arith, m, s.top) in
    get_d_tabulate 80 (λ k. pick (legal n && ltb k (20 * n)) (get_or ws (get_or (use_order back) (k / n) 0 * n + k % n) 0)) 0 (i * n + j) b
    ∙ ap₂ (λ (x y : Bool). pick (x && y) (get_or ws (get_or (use_order back) ((i * n + j) / n) 0 * n + (i * n + j) % n) 0)) (legal_size n s) (lt-ltb (i * n + j) (20 * n) m)
    ∙ ap₂ (λ (x y : ℕ). get_or ws (get_or (use_order back) x 0 * n + y) 0) (digits_div i l) (digits_mod i l))

-- the rounds' part of the order
forth : (i : ℕ) → i < 16 → get_or (use_order false) (i + 2) 0 ≡ get_or order i 0
unfolding use_order order
forth = tested_agree 16 (λ i. get_or (use_order false) (i + 2) 0) (λ i. get_or order i 0) tt

back : (i : ℕ) → i < 16 → get_or (use_order true) (i + 2) 0 ≡ get_or order (15 - i) 0
unfolding use_order order
back = tested_agree 16 (λ i. get_or (use_order true) (i + 2) 0) (λ i. get_or order (15 - i) 0) tt

-- ---- EF under the schedule

line_by_lem : (p : Parts) (n : ℕ) → Size n → (ws : List ℕ) (way : Bool) (o : ℕ → ℕ) → ((i : ℕ) → i < 16 → get_or (use_order way) (i + 2) 0 ≡ o i) → (s : Block)
    → line p n (schedule n ws way) s
    ≡ EF p n (half n ws (get_or (use_order way) 1 0), half n ws (get_or (use_order way) 0 0)) (λ i. half n ws (o i)) (half n ws (get_or (use_order way) 19 0), half n ws (get_or (use_order way) 18 0)) s
unfolding line EF
line_by_lem p n z ws way o e s =
    let k = half_schedule n z ws way in
    let ks : List ℕ = schedule n ws way in
    ap₂ (λ (x y : List ℕ). EF p n (x, y) (λ i. half n ks (i + 2)) (half n ks 19, half n ks 18) s) (k 1 (omega arith)) (k 0 (omega arith))
    ∙ ap₂ (λ (x y : List ℕ). EF p n (half n ws (get_or (use_order way) 1 0), half n ws (get_or (use_order way) 0 0)) (λ i. half n ks (i + 2)) (x, y) s) (k 19 (omega arith)) (k 18 (omega arith))
    ∙ ap (λ (q : Block). FT p.S⁻¹ n (half n ws (get_or (use_order way) 19 0), half n ws (get_or (use_order way) 18 0)) (exchange q))
    (rounds_cong p.SM n (λ i. half n ks (i + 2)) (λ i. half n ws (o i)) 16 _ (λ i l. k (i + 2) (omega arith) ∙ ap (half n ws) (e i l)))

pub line_E : (p : Parts) (n : ℕ) → Size n → (ws b : List ℕ) → line_bytes p n (schedule n ws false) b ≡ E p n ws b
unfolding line_bytes E use_order order
line_E p n z ws b = ap (store n) (line_by_lem p n z ws false (λ i. get_or order i 0) forth (load n b))

pub line_U : (p : Parts) (n : ℕ) → Size n → (ws b : List ℕ) → line_bytes p n (schedule n ws true) b ≡ U p n ws b
unfolding line_bytes U use_order order
line_U p n z ws b = ap (store n) (line_by_lem p n z ws true (λ i. get_or order (15 - i) 0) back (load n b))

-- ---- the schedule as a loop lays it

-- the rounds' numbers, forwards and backwards
pub order_fore : (i : ℕ) → 1 < i → i < 18 → get_or order (i - 2) 0 ≡ get_or (use_order false) i 0
order_fore i h l = let e : i - 2 + 2 ≡ i = omega arith in sym (forth (i - 2) (omega arith)) ∙ ap (λ (x : ℕ). get_or (use_order false) x 0) e

pub order_back : (i : ℕ) → 1 < i → i < 18 → get_or order (17 - i) 0 ≡ get_or (use_order true) i 0
order_back i h l =
    let e : i - 2 + 2 ≡ i = omega arith in
    let f : 17 - i ≡ 15 - (i - 2) = omega arith in
    ap (λ (x : ℕ). get_or order x 0) f ∙ sym (back (i - 2) (omega arith)) ∙ ap (λ (x : ℕ). get_or (use_order true) x 0) e

pub use_order_lt : (way : Bool) (i : ℕ) → i < 20 → get_or (use_order way) i 0 < 8
unfolding order use_order
use_order_lt true i l = ltb→lt _ 8 (tested_at 20 (λ k. ltb (get_or (use_order true) k 0) 8) tt i l)
use_order_lt false i l = ltb→lt _ 8 (tested_at 20 (λ k. ltb (get_or (use_order false) k 0) 8) tt i l)

-- k half-blocks of n words are at most 4k words
pub within : (n : ℕ) → Size n → (i k : ℕ) → i < k → i * n + n ≤ 4 * k
within n s i k l = sizes (λ n. i * n + n ≤ 4 * k) (omega arith) (omega arith) (omega arith) n s

-- word i of the schedule
abbrev pub laid_word : ℕ → List ℕ → Bool → ℕ → ℕ
laid_word n ws way i = get_or ws (get_or (use_order way) (i / n) 0 * n + i % n) 0

pub laid_first : (n : ℕ) (ws : List ℕ) (way : Bool) (d : List ℕ) → d ≡ put 0 (0 * n) (tabulate (0 * n) (laid_word n ws way)) d
unfolding tabulate
laid_first n ws way d = put_none d 0 ∙ ap (λ (m : ℕ). put 0 m (tabulate m (laid_word n ws way)) d) (sym (zero-mul n))

module _ (n : ℕ) (ws : List ℕ) (way : Bool) (s : Size n) where
  -- half-block i of it
  laid_half : (i : ℕ) → words_from n (get_or (use_order way) i 0 * n) ws ≡ tabulate n (λ t. laid_word n ws way (i * n + t))
  unfolding words_from
  laid_half i =
      tabulate_cong n _ (λ t. laid_word n ws way (i * n + t))
      (λ t l. ap₂ (λ (x y : ℕ). get_or ws (get_or (use_order way) x 0 * n + y) 0)
      (sym (mul-add-div_right s.pos i t ∙ ap (i +◌) (div-eq_of_lt l) ∙ add-zero i))
      (sym (mul-add-mod_self_right i n t ∙ mod-eq_of_lt l)))

  -- one half-block more, as a loop lays it
  pub laid_next : (d : List ℕ) (i : ℕ) {k : ℕ} {ks : List ℕ} → i * n + n ≤ length d → k ≡ get_or (use_order way) i 0 → ks ≡ put 0 (i * n) (tabulate (i * n) (laid_word n ws way)) d
      → put (i * n) n (words_from n (k * n) ws) ks ≡ put 0 ((i + 1) * n) (tabulate ((i + 1) * n) (laid_word n ws way)) d
  laid_next d i {k} {ks} h p e =
      let a : i * n ≡ 0 + i * n = omega arith in
      let b : i * n + n ≡ (i + 1) * n = omega arith in
      ap₂ (λ (m : ℕ) (x : List ℕ). put m n x ks) a (ap (λ (j : ℕ). words_from n (j * n) ws) p ∙ laid_half i)
      ∙ put_next (laid_word n ws way) d ks 0 (i * n) n (omega arith) e
      ∙ ap (λ (m : ℕ). put 0 m (tabulate m (laid_word n ws way)) d) b

  pub laid_length : (i : ℕ) {ks : List ℕ} → i < 20 → ks ≡ put 0 (i * n) (tabulate (i * n) (laid_word n ws way)) (replicate 80 0) → length ks ≡ 80
  laid_length i l e =
      ap length e
      ∙ length_put (replicate 80 0) (tabulate (i * n) (laid_word n ws way)) 0 (i * n) (length_tabulate (i * n) (laid_word n ws way)) (omega (arith, within n s i 20 l))

  -- all twenty, with zeros behind them
  laid_in : (d : List ℕ) → length d ≡ 80 → ((k : ℕ) → k < 80 → get_or d k 0 ≡ 0) → put 0 (20 * n) (tabulate (20 * n) (laid_word n ws way)) d ≡ schedule n ws way
  unfolding schedule pick
  laid_in d e zeros =
      tabulated 80 _ 0 (put 0 m front d) (length_put d front 0 m whole small ∙ e)
      (λ k l. elim (dec_lt k m) [ yes h ↦ inside k h | no h ↦ behind k l (omega arith) ])
    where
      m : ℕ
      m = 20 * n

      front : List ℕ
      front = tabulate m (laid_word n ws way)

      whole : length front ≡ m
      whole = length_tabulate m (laid_word n ws way)

      small : 0 + m ≤ length d
      small = omega (arith, s.top)

      inside : (k : ℕ) → k < m → get_or (put 0 m front d) k 0 ≡ pick (legal n && ltb k m) (laid_word n ws way k)
      inside k h =
          get_or-append front (drop (0 + m) d) 0 k (rw whole h) ∙ get_d_tabulate m (laid_word n ws way) 0 k h
          ∙ rw (legal_size n s, lt-ltb k m h)

      behind : (k : ℕ) → k < 80 → m ≤ k → get_or (put 0 m front d) k 0 ≡ pick (legal n && ltb k m) (laid_word n ws way k)
      behind k l h =
          let b : k ≡ length front + (k - m) = omega (arith, whole) in
          ap (λ (x : ℕ). get_or (put 0 m front d) x 0) b
          ∙ get_or-append-add front (drop (0 + m) d) (k - m) 0
          ∙ get_or-drop (0 + m) d (k - m) 0
          ∙ zeros (0 + m + (k - m)) (omega arith)
          ∙ rw (legal_size n s, le-ltb k m h)

  pub laid_all : {i : ℕ} {ks : List ℕ} → i ≡ 20 → ks ≡ put 0 (i * n) (tabulate (i * n) (laid_word n ws way)) (replicate 80 0) → ks ≡ schedule n ws way
  laid_all e p =
      p ∙ ap (λ (j : ℕ). put 0 (j * n) (tabulate (j * n) (laid_word n ws way)) (replicate 80 0)) e
      ∙ laid_in (replicate 80 0) refl (λ k l. get_or-replicate 80 k 0 0 l)

pub laid_none : (n : ℕ) (ws : List ℕ) (way : Bool) → legal n ≡ false → replicate 80 0 ≡ schedule n ws way
unfolding schedule pick
laid_none n ws way e = tabulated 80 _ 0 (replicate 80 0) refl (λ k l. get_or-replicate 80 k 0 0 l ∙ rw e)
