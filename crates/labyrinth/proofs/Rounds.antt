-- Laws of the iterations as the code makes them: halves in two arrays, of which n words each are used.
-- Assumes nothing.
use mathlib.Core.Path.{◌≡◌, refl, sym, ap, ap₂, ◌∙◌}
use mathlib.Core.Bool.{Bool, true, false, ◌&&◌}
use mathlib.Core.List.{List, ◌++◌}
use Prim.Native.Nat.{ℕ, zero, suc, ◌+◌, ◌*◌, ◌≤◌, ◌<◌}
use native.Mathlib.Nat.{zero-add}
use native.Mathlib.Numerals.{add-one}
use native.Mathlib.Omega.{arith}
use borrow.Author.Tests.{ne_eqb}
use lib.Bits.{bit_xor}
use lib.ListN.{length, get_or, take, drop, set, length-append, length-drop, take-append-drop}
use lib.Seq.{take_at, drop_at, get_or-take, length-take-le}
use Rattle.forms.specs.Lists.{tabulate, when, words_from}
use Rattle.forms.proofs.Lists.{take_tabulate, Replaced, replaced_none, replaced_at, replaced_more, replaced_end, replaced_front, get_d_tabulate, tabulate_cong}
use Rattle.forms.proofs.Xor.{xors}
use Rattle.field.specs.Published.{constants}
use Rattle.labyrinth.specs.declared.Halves.{Halves}
use Rattle.labyrinth.specs.Blocks.{Block, plus, zip}
use Rattle.labyrinth.specs.Cipher.{P, SL, F, round, rounds}
use Rattle.labyrinth.specs.Keys.{half}
use Rattle.labyrinth.specs.Refusals.{legal}
use Rattle.labyrinth.specs.Working.{Size, block_in, laid, both, on_block, lendable, wide, table_words, lookup_in}
use Rattle.labyrinth.proofs.Sizes.{sizes, legal_size, illegal}
use Rattle.labyrinth.proofs.Blocks.{length_zip, get_d_zip}
use Rattle.labyrinth.proofs.Permutation.{P_take}

-- ---- an array whose first words a loop replaces

-- the right half with n key words added
pub added : (n at : ℕ) (x ks old : List ℕ) {j : ℕ} {y : List ℕ} → j ≡ n → Replaced (λ i. plus (get_or x i 0) (get_or ks (at + i) 0)) old j y
    → take n y ≡ zip n plus (take n x) (words_from n at ks)
unfolding zip words_from
added n at x ks old e p =
    replaced_front _ old e p
    ∙ tabulate_cong n (λ i. plus (get_or x i 0) (get_or ks (at + i) 0)) (λ i. plus (get_or (take n x) i 0) (get_or (tabulate n (λ i. get_or ks (at + i) 0)) i 0))
    (λ i l. ap₂ plus (sym (get_or-take n x i 0 l)) (sym (get_d_tabulate n (λ i. get_or ks (at + i) 0) 0 i l)))

-- word i of that, as it is made alone
pub summed : (n at : ℕ) (x ks : List ℕ) (i : ℕ) → i < n → plus (get_or x i 0) (get_or ks (at + i) 0) ≡ get_or (zip n plus (take n x) (words_from n at ks)) i 0
unfolding words_from
summed n at x ks i l = sym (get_d_zip n plus (take n x) (words_from n at ks) i l ∙ ap₂ plus (get_or-take n x i 0 l) (get_d_tabulate n (λ i. get_or ks (at + i) 0) 0 i l))

-- a key in front of a schedule
pub words_front : (n : ℕ) (ks k : List ℕ) → n ≤ 4 → length k ≡ 4 → take 4 ks ≡ k → words_from n 0 ks ≡ take n k
unfolding words_from
words_front n ks k h len e =
    tabulate_cong n (λ i. get_or ks (0 + i) 0) (λ i. get_or k i 0)
    (λ i l. ap (λ (m : ℕ). get_or ks m 0) (zero-add i) ∙ sym (get_or-take 4 ks i 0 (omega arith)) ∙ ap (λ (x : List ℕ). get_or x i 0) e)
    ∙ sym (take_tabulate n k (omega arith))

-- ---- one iteration, word by word

-- the code adds the constant first, the article last
pub constant_last : (v k w : ℕ) → bit_xor (bit_xor v k) w ≡ bit_xor v (bit_xor w k)
constant_last v k w = simp xors

-- word i of the new right half, as the code makes it
abbrev new_word : (ℕ → ℕ) → ℕ → List ℕ → List ℕ → ℕ → ℕ
new_word SM n y l₀ i = bit_xor (bit_xor (get_or l₀ i 0) (get_or constants i 0)) (SM (get_or (P n y) i 0))

-- the first j words of both halves are done; y is the right half with the key added
pub record Turned (SM : ℕ → ℕ) (n : ℕ) (y l₀ r₀ : List ℕ) (j : ℕ) (l r : List ℕ) : Type 0 where
  pub left : Replaced (λ i. get_or r₀ i 0) l₀ j l
  pub right : Replaced (new_word SM n y l₀) r₀ j r

module _ (SM : ℕ → ℕ) (n : ℕ) (y l₀ r₀ : List ℕ) where
  pub turned_none : Turned SM n y l₀ r₀ 0 l₀ r₀
  turned_none = record {
    left = replaced_none (λ i. get_or r₀ i 0) l₀;
    right = replaced_none (new_word SM n y l₀) r₀;
  }

  pub turned_more : (j : ℕ) {l r c : List ℕ} {v w : ℕ} → j < length l₀ → j < length r₀
      → v ≡ bit_xor (bit_xor (get_or l j 0) (get_or c j 0)) w → c ≡ constants → w ≡ SM (get_or (P n y) j 0)
      → Turned SM n y l₀ r₀ j l r → Turned SM n y l₀ r₀ (j + 1) (set l j (get_or r j 0)) (set r j v)
  turned_more j {w = w} hl hr ev ec ew p = record {
    left = replaced_more (λ i. get_or r₀ i 0) l₀ j hl (replaced_at _ r₀ j hr p.right) p.left;
    right =
        replaced_more (new_word SM n y l₀) r₀ j hr
        (ev ∙ ap₂ (λ (x : ℕ) (c : List ℕ). bit_xor (bit_xor x (get_or c j 0)) w) (replaced_at _ l₀ j hl p.left) ec ∙ ap (bit_xor (bit_xor (get_or l₀ j 0) (get_or constants j 0))) ew) p.right;
  }

  pub turned_all : (k : List ℕ) {j : ℕ} {l r : List ℕ} → n ≤ length l₀ → n ≤ length r₀ → take n y ≡ zip n plus (take n r₀) k → j ≡ n
      → Turned SM n y l₀ r₀ j l r → both l r ≡ on_block n (round SM n k) (both l₀ r₀)
  unfolding on_block laid block_in round zip F SL
  turned_all k {j} hl hr e e' p =
      ap₂ both
      (replaced_end _ l₀ e' p.left ∙ ap (λ (x : List ℕ). x ++ drop n l₀) (sym (take_tabulate n r₀ hr)))
      (replaced_end _ r₀ e' p.right ∙ ap (λ (x : List ℕ). x ++ drop n r₀)
      (tabulate_cong n (new_word SM n y l₀) (λ i. bit_xor (get_or (take n l₀) i 0) (get_or (tabulate n after) i 0))
      (λ i l. constant_last (get_or l₀ i 0) (get_or constants i 0) (SM (get_or (P n y) i 0))
      ∙ ap₂ bit_xor (sym (get_or-take n l₀ i 0 l))
      (ap (λ (z : List ℕ). bit_xor (SM (get_or z i 0)) (get_or constants i 0)) (sym (P_take n y) ∙ ap (P n) e) ∙ sym (get_d_tabulate n after 0 i l)))))
    where
      after : ℕ → ℕ
      after t = bit_xor (SM (get_or (P n (zip n plus (take n r₀) k)) t 0)) (get_or constants t 0)

-- ---- all iterations

-- a block of n words a half
pub record Sized (n : ℕ) (s : Block) : Type 0 where
  pub left : length s.0 ≡ n
  pub right : length s.1 ≡ n

pub rounds_sized : (SM : ℕ → ℕ) (n : ℕ) (K : ℕ → List ℕ) (i : ℕ) {s : Block} → Sized n s → Sized n (rounds SM n K i s)
unfolding rounds round
rounds_sized SM n K zero z = z
rounds_sized SM n K (suc i) {s} z =
    let x : Block = rounds SM n K i s in
    record { left = (rounds_sized SM n K i z).right; right = length_zip n bit_xor x.0 (F SM n (K i) x.1) }

laid_block : (n : ℕ) (h : Halves) → laid n (block_in n h) h ≡ h
unfolding laid block_in
laid_block n h = ap₂ both (take-append-drop n h.high) (take-append-drop n h.low)

module _ (n : ℕ) (s : Block) (z : Sized n s) (h : Halves) where
  block_laid : block_in n (laid n s h) ≡ s
  unfolding laid block_in
  block_laid = λ i. (take_at s.0 (drop n h.high) n z.left i, take_at s.1 (drop n h.low) n z.right i)

  laid_laid : (s' : Block) → laid n s' (laid n s h) ≡ laid n s' h
  unfolding laid
  laid_laid s' =
      ap₂ both (ap (λ (x : List ℕ). s'.0 ++ x) (drop_at s.0 (drop n h.high) n z.left))
      (ap (λ (x : List ℕ). s'.1 ++ x) (drop_at s.1 (drop n h.low) n z.right))

  laid_lengths : n ≤ length h.high → n ≤ length h.low → (length (laid n s h).high ≡ length h.high) × (length (laid n s h).low ≡ length h.low)
  unfolding laid
  laid_lengths a b = (
    length-append s.0 (drop n h.high) ∙ omega (arith, z.left, length-drop n h.high),
    length-append s.1 (drop n h.low) ∙ omega (arith, z.right, length-drop n h.low),
  )

-- where the key words of an iteration stand
pub place_next : (n : ℕ) → Size n → (i at : ℕ) → at ≡ (i + 2) * n → at + n ≡ (i + 1 + 2) * n
place_next =
    sizes (λ n. (i at : ℕ) → at ≡ (i + 2) * n → at + n ≡ (i + 1 + 2) * n) (λ i at e. omega arith) (λ i at e. omega arith) (λ i at e. omega arith)

pub place_in : (n : ℕ) → Size n → (i at : ℕ) → at ≡ (i + 2) * n → at < 18 * n → (i + 1 ≤ 16) × (at + n ≤ 80)
place_in =
    sizes (λ n. (i at : ℕ) → at ≡ (i + 2) * n → at < 18 * n → (i + 1 ≤ 16) × (at + n ≤ 80))
    (λ i at e l. (omega arith, omega arith)) (λ i at e l. (omega arith, omega arith)) (λ i at e l. (omega arith, omega arith))

pub place_end : (n : ℕ) → Size n → (i at : ℕ) → at ≡ (i + 2) * n → i ≤ 16 → 18 * n ≤ at → i ≡ 16
place_end =
    sizes (λ n. (i at : ℕ) → at ≡ (i + 2) * n → i ≤ 16 → 18 * n ≤ at → i ≡ 16)
    (λ i at e h l. omega arith) (λ i at e h l. omega arith) (λ i at e h l. omega arith)

-- the iterations under the half-blocks of a schedule from the third on: `turns` of them are done, and the next one's key words begin at a place
pub record Ran (SM : ℕ → ℕ) (n : ℕ) (ks : List ℕ) (h₀ : Halves) (at : ℕ) (h : Halves) : Type 0 where
  pub turns : ℕ
  pub most : turns ≤ 16
  pub place : at ≡ (turns + 2) * n
  pub is : h ≡ on_block n (rounds SM n (λ i. half n ks (i + 2)) turns) h₀
  pub high : length h.high ≡ 4
  pub low : length h.low ≡ 4

module _ (SM : ℕ → ℕ) (n : ℕ) (size : Size n) (ks : List ℕ) (h₀ : Halves) (high : length h₀.high ≡ 4) (low : length h₀.low ≡ 4) where
  K : ℕ → List ℕ
  K i = half n ks (i + 2)

  sized : (i : ℕ) → Sized n (rounds SM n K i (block_in n h₀))
  unfolding block_in
  sized i = rounds_sized SM n K i (record { left = length-take-le n h₀.high (omega arith); right = length-take-le n h₀.low (omega arith) })

  pub ran_none : Ran SM n ks h₀ (2 * n) h₀
  unfolding rounds on_block
  ran_none = record { turns = 0; most = omega arith; place = refl; is = sym (laid_block n h₀); high = high; low = low }

  pub ran_inside : {at : ℕ} {h : Halves} → at < 18 * n → Ran SM n ks h₀ at h → at + n ≤ 80
  ran_inside {at} l p = (place_in n size p.turns at p.place l).1

  pub ran_more : {at : ℕ} {h h' : Halves} → at < 18 * n → h' ≡ on_block n (round SM n (words_from n at ks)) h → Ran SM n ks h₀ at h → Ran SM n ks h₀ (at + n) h'
  unfolding rounds on_block words_from half K
  ran_more {at} {h} {h'} l e p =
      let i = p.turns in
      let s = rounds SM n K i (block_in n h₀) in
      let s' = round SM n (K i) s in
      let b : block_in n h ≡ s = ap (block_in n) p.is ∙ block_laid n s (sized i) h₀ in
      let q : h' ≡ laid n s' h₀ =
      e ∙ ap (λ (a : ℕ). laid n (round SM n (words_from n a ks) (block_in n h)) h) p.place
      ∙ ap₂ (λ (x : Block) (y : Halves). laid n (round SM n (K i) x) y) b p.is ∙ laid_laid n s (sized i) h₀ s' in
      let ls = laid_lengths n s' (sized (suc i)) h₀ (omega arith) (omega arith) in
      record {
        turns = i + 1;
        most = (place_in n size i at p.place l).0;
        place = place_next n size i at p.place;
        is = q ∙ ap (λ (k : ℕ). laid n (rounds SM n K k (block_in n h₀)) h₀) (sym (add-one i));
        high = ap (λ (x : Halves). length x.high) q ∙ ls.0 ∙ high;
        low = ap (λ (x : Halves). length x.low) q ∙ ls.1 ∙ low;
      }

  pub ran_all : {at : ℕ} {h : Halves} → 18 * n ≤ at → Ran SM n ks h₀ at h → h ≡ on_block n (rounds SM n (λ i. half n ks (i + 2)) 16) h₀
  ran_all {at} l p =
      p.is ∙ ap (λ (k : ℕ). on_block n (rounds SM n (λ i. half n ks (i + 2)) k) h₀) (place_end n size p.turns at p.place p.most l)

-- ---- what is answered by n

pub when_legal : {A : Type 0} (n : ℕ) → Size n → (x y : A) → when (legal n) x y ≡ x
when_legal n s x y = rw (legal_size n s)

pub when_illegal : {A : Type 0} (n : ℕ) → (n ≡ 1 → ⊥) → (n ≡ 2 → ⊥) → (n ≡ 4 → ⊥) → (x y : A) → when (legal n) x y ≡ y
when_illegal n a b d x y = rw (illegal n a b d)

-- the right half of one iteration, its key in front of a schedule; the code's n is a literal m
pub iterated : (SM : ℕ → ℕ) (n m : ℕ) → n ≡ m → Size m → (ks k l r : List ℕ) {x y : List ℕ} → length k ≡ 4 → take 4 ks ≡ k
    → both x y ≡ on_block m (round SM m (words_from m 0 ks)) (both l r) → y ≡ when (legal n) (zip n bit_xor (take n l) (F SM n (take n k) (take n r)) ++ drop n r) r
unfolding on_block laid block_in round
iterated SM n m e s ks k l r len front q =
    ap (λ (h : Halves). h.low) q
    ∙ ap (λ (z : List ℕ). zip m bit_xor (take m l) (F SM m z (take m r)) ++ drop m r) (words_front m ks k s.top len front)
    ∙ sym (when_legal m s (zip m bit_xor (take m l) (F SM m (take m k) (take m r)) ++ drop m r) r)
    ∙ ap (λ (n : ℕ). when (legal n) (zip n bit_xor (take n l) (F SM n (take n k) (take n r)) ++ drop n r) r) (sym e)

-- the sixteen
pub ran_legal : (SM : ℕ → ℕ) (n m : ℕ) → n ≡ m → Size m → (ks : List ℕ) (h : Halves) {x : Halves}
    → x ≡ on_block m (rounds SM m (λ i. half m ks (i + 2)) 16) h → x ≡ when (legal n) (laid n (rounds SM n (λ i. half n ks (i + 2)) 16 (block_in n h)) h) h
unfolding on_block
ran_legal SM n m e s ks h q =
    q ∙ sym (when_legal m s (laid m (rounds SM m (λ i. half m ks (i + 2)) 16 (block_in m h)) h) h)
    ∙ ap (λ (n : ℕ). when (legal n) (laid n (rounds SM n (λ i. half n ks (i + 2)) 16 (block_in n h)) h) h) (sym e)

-- a table in its form
form_wide : (t : List ℕ) (eight : Bool) → length t ≡ table_words eight → wide t ≡ eight
unfolding wide
form_wide t false l = rw l
form_wide t true l = rw l

form_lendable : (t : List ℕ) (eight : Bool) → length t ≡ table_words eight → lendable (length t) ≡ true
unfolding lendable
form_lendable t false l = rw l
form_lendable t true l = rw l

-- the sixteen with a lent table, which the code takes in its form
pub ran_lent : (t : List ℕ) (eight : Bool) (n m : ℕ) → n ≡ m → Size m → length t ≡ table_words eight → (ks : List ℕ) (h : Halves) {x : Halves}
    → x ≡ on_block m (rounds (lookup_in eight t) m (λ i. half m ks (i + 2)) 16) h
    → x ≡ when (legal n && lendable (length t)) (laid n (rounds (lookup_in (wide t) t) n (λ i. half n ks (i + 2)) 16 (block_in n h)) h) h
ran_lent t eight n m e s l ks h q =
    ran_legal (lookup_in eight t) n m e s ks h q
    ∙ ap₂ (λ (b w : Bool). when b (laid n (rounds (lookup_in w t) n (λ i. half n ks (i + 2)) 16 (block_in n h)) h) h) (sym taken) (sym (form_wide t eight l))
  where
    taken : (legal n && lendable (length t)) ≡ legal n
    taken = rw (form_lendable t eight l, ap legal e ∙ legal_size m s)

-- nothing is done for an illegal n, or by a table in no form
pub unlent_size : {A : Type 0} (n k : ℕ) → (n ≡ 1 → ⊥) → (n ≡ 2 → ⊥) → (n ≡ 4 → ⊥) → (x y : A) → y ≡ when (legal n && lendable k) x y
unlent_size n k a b d x y = rw (illegal n a b d)

pub unlent_words : {A : Type 0} (n k : ℕ) → (k ≡ 2048 → ⊥) → (k ≡ 256 → ⊥) → (x y : A) → y ≡ when (legal n && lendable k) x y
unfolding lendable
unlent_words n k a b x y = rw (ne_eqb k 256 b, ne_eqb k 2048 a) (neither (legal n))
  where
    neither : (l : Bool) → y ≡ when (l && false) x y
    neither true = refl
    neither false = refl
