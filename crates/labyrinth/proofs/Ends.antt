-- Laws for the two ends of the cipher: IMix, IT and FT by their halves, as the code goes through them.
-- Assumes nothing.
use mathlib.Core.Path.{◌≡◌, sym, ap, ap₂, ◌∙◌}
use mathlib.Core.Bool.{Bool, true, ◌&&◌}
use mathlib.Core.List.{List, ◌++◌, append-nil}
use Prim.Native.Nat.{ℕ, zero, suc, ◌+◌, ◌-◌, ◌*◌, ◌%◌, ◌≤◌, ◌<◌}
use native.Mathlib.Nat.{mod-lt, add_assoc}
use native.Mathlib.Omega.{arith}
use borrow.Author.Tests.{eqb-true}
use lib.Dec.{eqb}
use lib.Bits.{bit_xor}
use lib.ListN.{length, get_or, take, drop, set, drop_of_length-le}
use lib.Seq.{get_or-drop, get_or-take}
use Rattle.forms.specs.Lists.{tabulate, words_from}
use Rattle.forms.specs.Words.{join, rotl, rotr, each_byte, words, bytes}
use Rattle.forms.proofs.Booleans.{and_both}
use Rattle.forms.proofs.Lists.{length_tabulate, get_d_tabulate, tabulate_cong, tabulated}
use Rattle.forms.proofs.Words.{join_cong, rotr_rotl}
use Rattle.forms.proofs.Bytes.{get_d_words, length_bytes}
use Rattle.forms.proofs.Buffers.{put, put_put}
use Rattle.labyrinth.specs.Blocks.{Block, plus, minus, each, zip, load, store}
use Rattle.labyrinth.specs.declared.Halves.{Halves}
use Rattle.labyrinth.specs.Cipher.{sigma, IMix, IT, FT}
use Rattle.labyrinth.specs.Keys.{half}
use Rattle.labyrinth.specs.Refusals.{legal}
use Rattle.labyrinth.specs.Working.{Size, four_words, held, block_in}
use Rattle.labyrinth.proofs.Blocks.{length_each, get_or_each, length_zip, get_d_zip}
use Rattle.labyrinth.proofs.FourWords.{get_or_four, take_four}
use Rattle.labyrinth.proofs.Refusals.{legal_size_of}
use Rattle.labyrinth.proofs.Rounds.{Sized}

-- ---- IMix

-- Sigma: word 0 rotated after all are there
pub sigma_first : (s : Block) (n : ℕ) → 0 < n → {d : List ℕ} {v : ℕ} → d ≡ four_words (tabulate n (λ j. bit_xor (get_or s.0 j 0) (get_or s.1 j 0)))
    → v ≡ rotl (get_or d 0 0) 28 → set d 0 v ≡ four_words (tabulate n (sigma s))
unfolding four_words tabulate sigma
sigma_first s zero h e p = let z : ⊥ = omega arith in absurd z
sigma_first s (suc n) h {d} e p = ap₂ (λ (y : List ℕ) (w : ℕ). set y 0 w) e (p ∙ ap (λ (y : List ℕ). rotl (get_or y 0 0) 28) e)

-- Sigma as it is read at (i - 1) mod n
pub sigma_at : (s : Block) (n i : ℕ) {d : List ℕ} → i < n → n ≤ 4 → d ≡ four_words (tabulate n (sigma s)) → get_or d ((i + n - 1) % n) 0 ≡ sigma s ((i + n - 1) % n)
sigma_at s n i {d} l h e =
    let m : ℕ = (i + n - 1) % n in
    let a : m < n = mod-lt (i + n - 1) (omega arith) in
    ap (λ (x : List ℕ). get_or x m 0) e ∙ get_or_four (tabulate n (sigma s)) m (rw (length_tabulate n (sigma s)) a) (omega arith) ∙ get_d_tabulate n (sigma s) 0 m a

abbrev pub mixed_word : ℕ → Block → List ℕ → ℕ → ℕ
mixed_word n s x i = bit_xor (get_or x i 0) (sigma s ((i + n - 1) % n))

mixed : (n : ℕ) (s : Block) (x : List ℕ) → tabulate n (mixed_word n s x) ≡ zip n bit_xor x (tabulate n (λ j. sigma s ((j + n - 1) % n)))
unfolding zip
mixed n s x = tabulate_cong n (mixed_word n s x) _ (λ i l. ap (bit_xor (get_or x i 0)) (sym (get_d_tabulate n (λ j. sigma s ((j + n - 1) % n)) 0 i l)))

pub imixed : (n : ℕ) (s : Block) {a b : List ℕ} → a ≡ four_words (tabulate n (mixed_word n s s.0)) → b ≡ four_words (tabulate n (mixed_word n s s.1))
    → ◌≡◌ {A = Halves} (record { high = a; low = b }) (held (IMix n s))
unfolding held IMix
imixed n s p q = λ i. record { high = (p ∙ ap four_words (mixed n s s.0)) i; low = (q ∙ ap four_words (mixed n s s.1)) i }

-- ---- IT

get_or_words_from : (n at : ℕ) (ws : List ℕ) (j : ℕ) → j < n → get_or (words_from n at ws) j 0 ≡ get_or ws (at + j) 0
unfolding words_from
get_or_words_from n at ws j l = get_d_tabulate n (λ i. get_or ws (at + i) 0) 0 j l

-- word j of a half that comes in, and the half
abbrev pub in_word : (ℕ → ℕ) → List ℕ → ℕ → ℕ → List ℕ → ℕ → ℕ → ℕ
in_word S ks k turn src at j = rotl (each_byte S (plus (join 8 (λ b. get_or src (at + 8 * j + b) 0)) (get_or ks (k + j) 0))) turn

abbrev pub in_half : (ℕ → ℕ) → ℕ → List ℕ → ℕ → ℕ → List ℕ → ℕ → List ℕ
in_half S n ks k turn src at = each n (λ w. rotl w turn) (each n (each_byte S) (zip n plus (words n (drop at src)) (words_from n k ks)))

pub in_half_lem : (S : ℕ → ℕ) (n : ℕ) (ks : List ℕ) (k turn : ℕ) (src : List ℕ) (at : ℕ) → tabulate n (in_word S ks k turn src at) ≡ in_half S n ks k turn src at
in_half_lem S n ks k turn src at = sym (tabulated n (in_word S ks k turn src at) 0 (in_half S n ks k turn src at) (length_each n _ _) entry)
  where
    word : (j : ℕ) → j < n → get_or (words n (drop at src)) j 0 ≡ join 8 (λ b. get_or src (at + 8 * j + b) 0)
    word j l =
        get_d_words n (drop at src) j l
        ∙ join_cong 8 (λ b. get_or (drop at src) (8 * j + b) 0) (λ b. get_or src (at + 8 * j + b) 0)
        (λ b h. get_or-drop at src (8 * j + b) 0 ∙ ap (λ (x : ℕ). get_or src x 0) (sym (add_assoc at (8 * j) b)))

    entry : (j : ℕ) → j < n → get_or (in_half S n ks k turn src at) j 0 ≡ in_word S ks k turn src at j
    entry j l =
        get_or_each n (λ w. rotl w turn) _ j l
        ∙ ap (λ (w : ℕ). rotl w turn) (get_or_each n (each_byte S) _ j l
        ∙ ap (each_byte S) (get_d_zip n plus _ _ j l ∙ ap₂ plus (word j l) (get_or_words_from n k ks j l)))

-- ---- FT

-- word j of a half that goes out, and the half
abbrev pub out_word : (ℕ → ℕ) → List ℕ → ℕ → ℕ → List ℕ → ℕ → ℕ
out_word S ks k turn x j = minus (each_byte S (rotl (get_or x j 0) turn)) (get_or ks (k + j) 0)

abbrev pub out_half : (ℕ → ℕ) → ℕ → List ℕ → ℕ → ℕ → List ℕ → List ℕ
out_half S n ks k turn x = zip n minus (each n (each_byte S) (each n (λ w. rotl w turn) (take n x))) (words_from n k ks)

pub get_or_out_half : (S : ℕ → ℕ) (n : ℕ) (ks : List ℕ) (k turn : ℕ) (x : List ℕ) (j : ℕ) → j < n → out_word S ks k turn x j ≡ get_or (out_half S n ks k turn x) j 0
get_or_out_half S n ks k turn x j l =
    sym
    (get_d_zip n minus _ _ j l
    ∙ ap₂ minus
    (get_or_each n (each_byte S) _ j l
    ∙ ap (each_byte S) (get_or_each n (λ w. rotl w turn) _ j l ∙ ap (λ (w : ℕ). rotl w turn) (get_or-take n x j 0 l)))
    (get_or_words_from n k ks j l))

-- ---- FT and IT of a block

-- a rotation to the right by 2 is one to the left by 62
each_turn : (n : ℕ) (x : List ℕ) → each n (λ w. rotl w 62) x ≡ each n (λ w. rotr w 2) x
unfolding each
each_turn n x = tabulate_cong n (λ j. rotl (get_or x j 0) 62) (λ j. rotr (get_or x j 0) 2) (λ j l. sym (rotr_rotl (get_or x j 0) 2 (omega arith)))

-- both halves in, then IMix: IT
pub entered : (S : ℕ → ℕ) (ks src : List ℕ) {n m : ℕ} {low high : List ℕ} {h : Halves} → n ≡ m → m ≤ 4
    → low ≡ four_words (in_half S m ks (0 * m) 62 src 0) → high ≡ four_words (in_half S m ks (1 * m) 2 src (8 * m))
    → h ≡ held (IMix m (take m high, take m low))
    → h ≡ held (IT S n (half n ks 1, half n ks 0) (load n src))
unfolding IT half load words_from
entered S ks src {n} {m} {low} {high} e l p q r =
    rw e
    (r ∙ ap₂ (λ (x y : List ℕ). held (IMix m (x, y)))
    (ap (take m) q ∙ take_four m (in_half S m ks (1 * m) 2 src (8 * m)) (length_each m _ _) l)
    (ap (take m) p ∙ take_four m (in_half S m ks (0 * m) 62 src 0) (length_each m _ _) l ∙ each_turn m _))

pub imix_sized : (n : ℕ) (s : Block) → Sized n (IMix n s)
unfolding IMix
imix_sized n s = record { left = length_zip n bit_xor _ _; right = length_zip n bit_xor _ _ }

-- two halves put into a buffer of their length
put_two : (d xs ys : List ℕ) (m : ℕ) → length xs ≡ m → length d ≡ m + m → put (0 + m) m ys (put 0 m xs d) ≡ xs ++ ys
put_two d xs ys m e h =
    put_put d xs 0 m e (omega arith) ys m ∙ ap (λ (x : List ℕ). (xs ++ ys) ++ x) (drop_of_length-le d {i = 0 + (m + m)} (omega arith)) ∙ append-nil (xs ++ ys)

-- IMix, then both halves out: FT
pub left : (S : ℕ → ℕ) (ks : List ℕ) (h : Halves) (d : List ℕ) {n m : ℕ} {x : Halves} {d₁ d₂ : List ℕ} → n ≡ m → m ≤ 4 → length d ≡ 16 * m
    → x ≡ held (IMix m (take m h.high, take m h.low))
    → d₁ ≡ put 0 (8 * m) (bytes m (out_half S m ks (18 * m) 2 x.low)) d
    → d₂ ≡ put (0 + 8 * m) (8 * m) (bytes m (out_half S m ks (19 * m) 62 x.high)) d₁
    → d₂ ≡ store n (FT S n (half n ks 19, half n ks 18) (block_in n h))
unfolding FT half store words_from block_in held
left S ks h d {n} {m} {x} {d₁} {d₂} e l k p q r =
    rw e
    (r ∙ ap (put (0 + 8 * m) (8 * m) (bytes m (out_half S m ks (19 * m) 62 x.high))) q
    ∙ put_two d (bytes m (out_half S m ks (18 * m) 2 x.low)) (bytes m (out_half S m ks (19 * m) 62 x.high)) (8 * m) (length_bytes m _) (omega arith)
    ∙ ap₂ (λ (y z : List ℕ). bytes m (out 18 (each m (λ w. rotl w 2) y)) ++ bytes m (out 19 z)) low (ap (each m (λ w. rotl w 62)) high ∙ each_turn m u.0))
  where
    u : Block
    u = IMix m (take m h.high, take m h.low)

    out : ℕ → List ℕ → List ℕ
    out j y = zip m minus (each m (each_byte S) y) (half m ks j)

    low : take m x.low ≡ u.1
    low = ap (λ (y : Halves). take m y.low) p ∙ take_four m u.1 (imix_sized m _).right l

    high : take m x.high ≡ u.0
    high = ap (λ (y : Halves). take m y.high) p ∙ take_four m u.0 (imix_sized m _).left l

-- ---- what is tested first

-- what is left for the last arm
pub is_four : {n : ℕ} → Size n → (n ≡ 1 → ⊥) → (n ≡ 2 → ⊥) → n ≡ 4
is_four s a b = omega arith

-- as the code's test answers
pub fits_is : (n k : ℕ) {r : Bool} → r ≡ (legal n && eqb k (16 * n)) → r ≡ true → Size n × (k ≡ 16 * n)
fits_is n k e t = let b = and_both (legal n) (eqb k (16 * n)) (sym e ∙ t) in (legal_size_of n b.0, eqb-true k (16 * n) b.1)
