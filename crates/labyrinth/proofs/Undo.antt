-- E and U undo each other, for any parts whose substitution and inverse undo each other: half-block by half-block, step by step.
-- Assumes nothing.
use mathlib.Core.Path.{◌≡◌, refl, sym, ap, ap₂, ◌∙◌}
use mathlib.Core.List.{List}
use Prim.Native.Nat.{ℕ, zero, suc, ◌+◌, ◌-◌, ◌*◌, ◌%◌, ◌^◌, ◌<◌}
use native.Mathlib.Nat.{mod-lt}
use native.Mathlib.Omega.{arith}
use lib.Bits.{bit_xor, xor_lt}
use lib.ListN.{length, get_or}
use Rattle.forms.specs.Lists.{tabulate}
use Rattle.forms.specs.Words.{rotl, rotr, each_byte}
use Rattle.forms.proofs.Xor.{xors}
use Rattle.forms.proofs.Lists.{tabulate_cong, tabulated}
use Rattle.forms.proofs.Words.{rotl_lt, rotr_lt, rotr_undoes, rotl_undoes, each_lt, each_undo}
use Rattle.forms.proofs.Bytes.{Bytes, Small, Good, tabulate_small, good_tabulate}
use Rattle.field.specs.Published.{constants}
use Rattle.field.proofs.Substitution.{Undo}
use Rattle.labyrinth.specs.Blocks.{Block, plus, minus, each, zip, load, store}
use Rattle.labyrinth.specs.Cipher.{Parts, SL, F, sigma, IMix, IT, FT, round, rounds, exchange, EF}
use Rattle.labyrinth.specs.Keys.{half, order, E, U}
use Rattle.labyrinth.proofs.Blocks.{get_or_each, get_d_zip, Whole, good_each, good_zip, pair, load_store, store_load, load_whole, length_store, store_bytes_lem}

-- ---- words that go in and out under a key

each_zip : (n : ℕ) (g : ℕ → ℕ) (h : ℕ → ℕ → ℕ) (x y : List ℕ) → each n g (zip n h x y) ≡ zip n (λ a b. g (h a b)) x y
unfolding each zip
each_zip n g h x y =
    tabulate_cong n (λ j. g (get_or (zip n h x y) j 0)) (λ j. g (h (get_or x j 0) (get_or y j 0))) (λ j l. ap g (get_d_zip n h x y j l))

zip_each : (n : ℕ) (g : ℕ → ℕ) (h : ℕ → ℕ → ℕ) (x y : List ℕ) → zip n h (each n g x) y ≡ zip n (λ a b. h (g a) b) x y
unfolding each zip
zip_each n g h x y =
    tabulate_cong n (λ j. h (get_or (each n g x) j 0) (get_or y j 0)) (λ j. h (g (get_or x j 0)) (get_or y j 0))
    (λ j l. ap (λ (a : ℕ). h a (get_or y j 0)) (get_or_each n g x j l))

zip_undo : (n : ℕ) (g h : ℕ → ℕ → ℕ) (x k : List ℕ) → length x ≡ n → ((j : ℕ) → h (g (get_or x j 0) (get_or k j 0)) (get_or k j 0) ≡ get_or x j 0)
    → zip n h (zip n g x k) k ≡ x
unfolding zip
zip_undo n g h x k e u =
    sym (tabulated n (λ j. h (get_or (zip n g x k) j 0) (get_or k j 0)) 0 x e
    (λ j l. sym (ap (λ (a : ℕ). h a (get_or k j 0)) (get_d_zip n g x k j l) ∙ u j)))

-- a rotation and the one that undoes it
pub record Turn (t t' : ℕ → ℕ) : Type 0 where
  pub there : (w : ℕ) → w < 2 ^ 64 → t w < 2 ^ 64
  pub undo : (w : ℕ) → w < 2 ^ 64 → t' (t w) ≡ w

left : Turn (λ w. rotl w 2) (λ w. rotr w 2)
left = record { there = λ w h. rotl_lt w 2 (omega arith) h; undo = λ w h. rotr_undoes w 2 (omega arith) h }

right : Turn (λ w. rotr w 2) (λ w. rotl w 2)
right = record { there = λ w h. rotr_lt w 2 (omega arith) h; undo = λ w h. rotl_undoes w 2 (omega arith) h }

-- steps 1 to 3 of IT and steps 2 to 4 of FT on one half
abbrev in_half_lem : (ℕ → ℕ) → (ℕ → ℕ) → ℕ → List ℕ → List ℕ → List ℕ
in_half_lem S t n x k = each n t (each n (each_byte S) (zip n plus x k))

abbrev out_half_lem : (ℕ → ℕ) → (ℕ → ℕ) → ℕ → List ℕ → List ℕ → List ℕ
out_half_lem G t n x k = zip n minus (each n (each_byte G) (each n t x)) k

in_is : (S t : ℕ → ℕ) (n : ℕ) (x k : List ℕ) → in_half_lem S t n x k ≡ zip n (λ a b. t (each_byte S (plus a b))) x k
in_is S t n x k = ap (each n t) (each_zip n (each_byte S) plus x k) ∙ each_zip n t (λ a b. each_byte S (plus a b)) x k

out_is : (G t : ℕ → ℕ) (n : ℕ) (x k : List ℕ) → out_half_lem G t n x k ≡ zip n (λ a b. minus (each_byte G (t a)) b) x k
out_is G t n x k = zip_each n (each_byte G) minus (each n t x) k ∙ zip_each n t (λ a b. minus (each_byte G a) b) x k

module _ (S G : ℕ → ℕ) (u : Undo S G) (t t' : ℕ → ℕ) (turn : Turn t t') where
  out_in_word : (a k : ℕ) → a < 2 ^ 64 → k < 2 ^ 64 → minus (each_byte G (t' (t (each_byte S (plus a k))))) k ≡ a
  out_in_word a k ha hk =
      ap (λ (x : ℕ). minus (each_byte G x) k) (turn.undo (each_byte S (plus a k)) (each_lt S u.there (plus a k)))
      ∙ ap (λ (x : ℕ). minus x k) (each_undo S G u.there u.back_there (plus a k) (omega arith))
      ∙ minus_plus a k ha hk
    where
      minus_plus : (a k : ℕ) → a < 2 ^ 64 → k < 2 ^ 64 → minus (plus a k) k ≡ a
      minus_plus a k h l = omega arith

  in_out_word : (a k : ℕ) → a < 2 ^ 64 → k < 2 ^ 64 → t' (each_byte S (plus (minus (each_byte G (t a)) k) k)) ≡ a
  in_out_word a k ha hk =
      ap (λ (x : ℕ). t' (each_byte S x)) (plus_minus (each_byte G (t a)) k (each_lt G u.back (t a)) hk)
      ∙ ap t' (each_undo G S u.back u.there_back (t a) (turn.there a ha))
      ∙ turn.undo a ha
    where
      plus_minus : (a k : ℕ) → a < 2 ^ 64 → k < 2 ^ 64 → plus (minus a k) k ≡ a
      plus_minus a k h l = omega arith

  out_in : (n : ℕ) (x k : List ℕ) → Good n x → Small k → out_half_lem G t' n (in_half_lem S t n x k) k ≡ x
  out_in n x k g h =
      out_is G t' n (in_half_lem S t n x k) k
      ∙ ap (λ (z : List ℕ). zip n (λ a b. minus (each_byte G (t' a)) b) z k) (in_is S t n x k)
      ∙ zip_undo n (λ a b. t (each_byte S (plus a b))) (λ a b. minus (each_byte G (t' a)) b) x k g.len (λ j. out_in_word (get_or x j 0) (get_or k j 0) (g.small j) (h j))

  in_out : (n : ℕ) (x k : List ℕ) → Good n x → Small k → in_half_lem S t' n (out_half_lem G t n x k) k ≡ x
  in_out n x k g h =
      in_is S t' n (out_half_lem G t n x k) k
      ∙ ap (λ (z : List ℕ). zip n (λ a b. t' (each_byte S (plus a b))) z k) (out_is G t n x k)
      ∙ zip_undo n (λ a b. minus (each_byte G (t a)) b) (λ a b. t' (each_byte S (plus a b))) x k g.len (λ j. in_out_word (get_or x j 0) (get_or k j 0) (g.small j) (h j))

  good_in : (n : ℕ) (x k : List ℕ) → Good n (in_half_lem S t n x k)
  good_in n x k = good_each n t (each n (each_byte S) (zip n plus x k)) (λ j. turn.there _ ((good_each n (each_byte S) (zip n plus x k) (λ i. each_lt S u.there _)).small j))

good_out : (G t : ℕ → ℕ) (n : ℕ) (x k : List ℕ) → Good n (out_half_lem G t n x k)
good_out G t n x k = good_zip n minus (each n (each_byte G) (each n t x)) k (λ j. below _ _)
  where
    below : (a b : ℕ) → minus a b < 2 ^ 64
    below a b = omega arith

-- ---- IMix is its own inverse

mask : ℕ → Block → List ℕ
mask n s = tabulate n (λ j. sigma s ((j + n - 1) % n))

sum : (n : ℕ) (s : Block) (m : List ℕ) (j : ℕ) → j < n
    → bit_xor (get_or (zip n bit_xor s.0 m) j 0) (get_or (zip n bit_xor s.1 m) j 0) ≡ bit_xor (get_or s.0 j 0) (get_or s.1 j 0)
sum n s m j l = ap₂ bit_xor (get_d_zip n bit_xor s.0 m j l) (get_d_zip n bit_xor s.1 m j l) ∙ sorted (get_or s.0 j 0) (get_or s.1 j 0) (get_or m j 0)
  where
    sorted : (a b c : ℕ) → bit_xor (bit_xor a c) (bit_xor b c) ≡ bit_xor a b
    sorted a b c = simp xors

sigma_kept : (n : ℕ) (s : Block) (m : List ℕ) (j : ℕ) → j < n → sigma (zip n bit_xor s.0 m, zip n bit_xor s.1 m) j ≡ sigma s j
unfolding sigma
sigma_kept n s m zero l = ap (λ (x : ℕ). rotl x 28) (sum n s m 0 l)
sigma_kept n s m (suc j) l = sum n s m (suc j) l

mask_kept : (n : ℕ) (s : Block) → mask n (IMix n s) ≡ mask n s
unfolding mask IMix
mask_kept n s =
    tabulate_cong n (λ j. sigma (IMix n s) ((j + n - 1) % n)) (λ j. sigma s ((j + n - 1) % n))
    (λ j l. sigma_kept n s (mask n s) ((j + n - 1) % n) (mod-lt (j + n - 1) (omega arith)))

-- a mask twice
again : (a m : ℕ) → bit_xor (bit_xor a m) m ≡ a
again a m = simp xors

pub IMix_IMix : (n : ℕ) (s : Block) → length s.0 ≡ n → length s.1 ≡ n → IMix n (IMix n s) ≡ s
unfolding IMix mask
IMix_IMix n s a b =
    pair (ap (zip n bit_xor (zip n bit_xor s.0 (mask n s))) (mask_kept n s) ∙ undone s.0 a)
    (ap (zip n bit_xor (zip n bit_xor s.1 (mask n s))) (mask_kept n s) ∙ undone s.1 b)
  where
    undone : (x : List ℕ) → length x ≡ n → zip n bit_xor (zip n bit_xor x (mask n s)) (mask n s) ≡ x
    undone x e = zip_undo n bit_xor bit_xor x (mask n s) e (λ j. again (get_or x j 0) (get_or (mask n s) j 0))

sigma_small : (s : Block) → Small s.0 → Small s.1 → (j : ℕ) → sigma s j < 2 ^ 64
unfolding sigma
sigma_small s a b zero = rotl_lt _ 28 (omega arith) (xor_lt 64 (get_or s.0 0 0) (get_or s.1 0 0) (a 0) (b 0))
sigma_small s a b (suc j) = xor_lt 64 (get_or s.0 (suc j) 0) (get_or s.1 (suc j) 0) (a (suc j)) (b (suc j))

pub good_xor : (n : ℕ) (x y : List ℕ) → Small x → Small y → Good n (zip n bit_xor x y)
good_xor n x y a b = good_zip n bit_xor x y (λ j. xor_lt 64 (get_or x j 0) (get_or y j 0) (a j) (b j))

whole_IMix : (n : ℕ) (s : Block) → Whole n s → Whole n (IMix n s)
unfolding IMix
whole_IMix n s g =
    let m : Good n (tabulate n (λ j. sigma s ((j + n - 1) % n))) = good_tabulate n (λ j. sigma s ((j + n - 1) % n)) (λ j. sigma_small s g.high.small g.low.small ((j + n - 1) % n)) in
    record { high = good_xor n s.0 _ g.high.small m.small; low = good_xor n s.1 _ g.low.small m.small }

-- ---- IT and FT undo each other

-- both halves of a key
pub record SmallKey (k : Block) : Type 0 where
  pub high : Small k.0
  pub low : Small k.1

-- the steps of IT before IMix, and those of FT after it
abbrev goes_in : (ℕ → ℕ) → ℕ → Block → Block → Block
goes_in S n k p = (in_half_lem S (λ w. rotl w 2) n p.0 k.0, in_half_lem S (λ w. rotr w 2) n p.1 k.1)

abbrev goes_out : (ℕ → ℕ) → ℕ → Block → Block → Block
goes_out G n k s = (out_half_lem G (λ w. rotr w 2) n s.0 k.0, out_half_lem G (λ w. rotl w 2) n s.1 k.1)

pub IT_is : (S : ℕ → ℕ) (n : ℕ) (k p : Block) → IT S n k p ≡ IMix n (goes_in S n k p)
unfolding IT
IT_is S n k p = refl

pub FT_is : (G : ℕ → ℕ) (n : ℕ) (k s : Block) → FT G n k s ≡ goes_out G n k (IMix n s)
unfolding FT
FT_is G n k s = refl

module _ (S G : ℕ → ℕ) (u : Undo S G) (n : ℕ) (k : Block) where
  whole_in : (p : Block) → Whole n (goes_in S n k p)
  whole_in p = record { high = good_in S G u (λ w. rotl w 2) (λ w. rotr w 2) left n p.0 k.0; low = good_in S G u (λ w. rotr w 2) (λ w. rotl w 2) right n p.1 k.1 }

  pub whole_IT : (p : Block) → Whole n (IT S n k p)
  whole_IT p = rw (IT_is S n k p) (whole_IMix n (goes_in S n k p) (whole_in p))

  pub FT_IT : SmallKey k → (p : Block) → Whole n p → FT G n k (IT S n k p) ≡ p
  FT_IT h p g =
      FT_is G n k (IT S n k p)
      ∙ ap (λ (s : Block). goes_out G n k (IMix n s)) (IT_is S n k p)
      ∙ ap (goes_out G n k) (IMix_IMix n (goes_in S n k p) (whole_in p).high.len (whole_in p).low.len)
      ∙ pair (out_in S G u (λ w. rotl w 2) (λ w. rotr w 2) left n p.0 k.0 g.high h.high) (out_in S G u (λ w. rotr w 2) (λ w. rotl w 2) right n p.1 k.1 g.low h.low)

  pub IT_FT : SmallKey k → (s : Block) → Whole n s → IT S n k (FT G n k s) ≡ s
  IT_FT h s g =
      let w : Whole n (IMix n s) = whole_IMix n s g in
      IT_is S n k (FT G n k s)
      ∙ ap (λ (p : Block). IMix n (goes_in S n k p)) (FT_is G n k s)
      ∙ ap (IMix n) (pair (in_out S G u (λ w. rotr w 2) (λ w. rotl w 2) right n (IMix n s).0 k.0 w.high h.high) (in_out S G u (λ w. rotl w 2) (λ w. rotr w 2) left n (IMix n s).1 k.1 w.low h.low))
      ∙ IMix_IMix n s g.high.len g.low.len

pub whole_FT : (G : ℕ → ℕ) (n : ℕ) (k s : Block) → Whole n (FT G n k s)
whole_FT G n k s = rw (FT_is G n k s) (record { high = good_out G (λ w. rotr w 2) n (IMix n s).0 k.0; low = good_out G (λ w. rotl w 2) n (IMix n s).1 k.1 })

-- ---- the rounds, backwards

constant_lt : (t : ℕ) → get_or constants t 0 < 2 ^ 64
unfolding constants
constant_lt zero = omega arith
constant_lt (suc zero) = omega arith
constant_lt (suc (suc zero)) = omega arith
constant_lt (suc (suc (suc zero))) = omega arith
constant_lt (suc (suc (suc (suc t)))) = omega arith

-- SM gives words
abbrev pub OnWords : (ℕ → ℕ) → Type 0
OnWords SM = (w : ℕ) → SM w < 2 ^ 64

-- the first iteration apart
pub rounds_first : (SM : ℕ → ℕ) (n : ℕ) (K : ℕ → List ℕ) (m : ℕ) (s : Block) → rounds SM n K (suc m) s ≡ rounds SM n (λ i. K (suc i)) m (round SM n (K 0) s)
unfolding rounds
rounds_first SM n K zero s = refl
rounds_first SM n K (suc m) s = ap (round SM n (K (suc m))) (rounds_first SM n K m s)

pub rounds_cong : (SM : ℕ → ℕ) (n : ℕ) (K K' : ℕ → List ℕ) (m : ℕ) (s : Block) → ((i : ℕ) → i < m → K i ≡ K' i) → rounds SM n K m s ≡ rounds SM n K' m s
unfolding rounds
rounds_cong SM n K K' zero s e = refl
rounds_cong SM n K K' (suc m) s e = ap₂ (round SM n) (e m (omega arith)) (rounds_cong SM n K K' m s (λ i l. e i (omega arith)))

module _ (SM : ℕ → ℕ) (words : OnWords SM) (n : ℕ) where
  pub good_F : (k x : List ℕ) → Good n (F SM n k x)
  unfolding F SL
  good_F k x = good_tabulate n _ (λ t. xor_lt 64 _ _ (words _) (constant_lt _))

  pub whole_round : (k : List ℕ) (s : Block) → Whole n s → Whole n (round SM n k s)
  unfolding round
  whole_round k s g = record { high = g.low; low = good_xor n s.0 (F SM n k s.1) g.high.small (good_F k s.1).small }

  pub whole_rounds : (K : ℕ → List ℕ) (m : ℕ) (s : Block) → Whole n s → Whole n (rounds SM n K m s)
  unfolding rounds
  whole_rounds K zero s g = g
  whole_rounds K (suc m) s g = whole_round (K m) (rounds SM n K m s) (whole_rounds K m s g)

  round_back : (k : List ℕ) (s : Block) → Whole n s → round SM n k (exchange (round SM n k s)) ≡ exchange s
  unfolding round
  round_back k s g = pair refl (zip_undo n bit_xor bit_xor s.0 (F SM n k s.1) g.high.len (λ j. again (get_or s.0 j 0) (get_or (F SM n k s.1) j 0)))

  pub rounds_back : (m : ℕ) (K K' : ℕ → List ℕ) (s : Block) → Whole n s → ((i : ℕ) → i < m → K' i ≡ K (m - 1 - i))
      → rounds SM n K' m (exchange (rounds SM n K m s)) ≡ exchange s
  unfolding rounds
  rounds_back zero K K' s g e = refl
  rounds_back (suc m) K K' s g e =
      let y : Block = rounds SM n K m s in
      rounds_first SM n K' m (exchange (round SM n (K m) y))
      ∙ ap (λ (k : List ℕ). rounds SM n (λ i. K' (suc i)) m (round SM n k (exchange (round SM n (K m) y)))) (e 0 (omega arith) ∙ ap K (omega arith))
      ∙ ap (rounds SM n (λ i. K' (suc i)) m) (round_back (K m) y (whole_rounds K m s g))
      ∙ rounds_back m K (λ i. K' (suc i)) s g (λ i l. e (suc i) (omega arith) ∙ ap K (omega arith))

-- ---- the whole line, and blocks of bytes

-- the one hypothesis: S and its inverse undo each other, and SM gives words
pub record Sound (p : Parts) : Type 0 where
  pub undo : Undo p.S p.S⁻¹
  pub on_words : OnWords p.SM

pub whole_EF : (p : Parts) (n : ℕ) (a : Block) (K : ℕ → List ℕ) (b s : Block) → Whole n (EF p n a K b s)
unfolding EF
whole_EF p n a K b s = whole_FT p.S⁻¹ n b _

pub EF_undo : (p : Parts) → Sound p → (n : ℕ) (a b : Block) (K K' : ℕ → List ℕ) (s : Block) → SmallKey a → SmallKey b → Whole n s
    → ((i : ℕ) → i < 16 → K' i ≡ K (15 - i)) → EF p n b K' a (EF p n a K b s) ≡ s
unfolding EF
EF_undo p h n a b K K' s ha hb g e =
    let t : Block = IT p.S n a s in
    let wt : Whole n t = whole_IT p.S p.S⁻¹ h.undo n a s in
    let wr : Whole n (rounds p.SM n K 16 t) = whole_rounds p.SM h.on_words n K 16 t wt in
    ap (λ (z : Block). FT p.S⁻¹ n a (exchange (rounds p.SM n K' 16 z)))
    (IT_FT p.S p.S⁻¹ h.undo n b hb (exchange (rounds p.SM n K 16 t)) (record { high = wr.low; low = wr.high }))
    ∙ ap (λ (z : Block). FT p.S⁻¹ n a (exchange z)) (rounds_back p.SM h.on_words n 16 K K' t wt e)
    ∙ FT_IT p.S p.S⁻¹ h.undo n a ha s g

small_half : (n : ℕ) (ws : List ℕ) (j : ℕ) → Small ws → Small (half n ws j)
unfolding half
small_half n ws j h = tabulate_small n (λ i. get_or ws (j * n + i) 0) (2 ^ 64) (omega arith) (λ i. h (j * n + i))

small_key : (n : ℕ) (ws : List ℕ) (i j : ℕ) → Small ws → SmallKey (half n ws i, half n ws j)
small_key n ws i j h = record { high = small_half n ws i h; low = small_half n ws j h }

-- U undoes E, and E undoes U, on every block of 16n bytes, whatever words the working key holds
pub U_E : (p : Parts) → Sound p → (n : ℕ) (ws b : List ℕ) → Small ws → length b ≡ 16 * n → Bytes b → U p n ws (E p n ws b) ≡ b
unfolding E U
U_E p h n ws b hw e hb =
    ap (λ (z : Block). store n (EF p n (half n ws 6, half n ws 3) (λ i. half n ws (get_or order (15 - i) 0)) (half n ws 7, half n ws 4) z))
    (load_store n _ (whole_EF p n _ _ _ (load n b)))
    ∙ ap (store n) (EF_undo p h n (half n ws 7, half n ws 4) (half n ws 6, half n ws 3) (λ i. half n ws (get_or order i 0)) (λ i. half n ws (get_or order (15 - i) 0)) (load n b)
    (small_key n ws 7 4 hw) (small_key n ws 6 3 hw) (load_whole n b hb) (λ i l. refl))
    ∙ store_load n b e hb

pub E_U : (p : Parts) → Sound p → (n : ℕ) (ws b : List ℕ) → Small ws → length b ≡ 16 * n → Bytes b → E p n ws (U p n ws b) ≡ b
unfolding E U
E_U p h n ws b hw e hb =
    ap (λ (z : Block). store n (EF p n (half n ws 7, half n ws 4) (λ i. half n ws (get_or order i 0)) (half n ws 6, half n ws 3) z))
    (load_store n _ (whole_EF p n _ _ _ (load n b)))
    ∙ ap (store n) (EF_undo p h n (half n ws 6, half n ws 3) (half n ws 7, half n ws 4) (λ i. half n ws (get_or order (15 - i) 0)) (λ i. half n ws (get_or order i 0)) (load n b)
    (small_key n ws 6 3 hw) (small_key n ws 7 4 hw) (load_whole n b hb) (λ i l. ap (λ (j : ℕ). half n ws (get_or order j 0)) (omega arith)))
    ∙ store_load n b e hb

-- lengths are kept and bytes stay bytes
pub length_E : (p : Parts) (n : ℕ) (ws b : List ℕ) → length (E p n ws b) ≡ 16 * n
unfolding E
length_E p n ws b = length_store n _

pub length_U : (p : Parts) (n : ℕ) (ws b : List ℕ) → length (U p n ws b) ≡ 16 * n
unfolding U
length_U p n ws b = length_store n _

pub bytes_E : (p : Parts) (n : ℕ) (ws b : List ℕ) → Bytes (E p n ws b)
unfolding E
bytes_E p n ws b = store_bytes_lem n _

pub bytes_U : (p : Parts) (n : ℕ) (ws b : List ℕ) → Bytes (U p n ws b)
unfolding U
bytes_U p n ws b = store_bytes_lem n _
