-- Expansion as the code goes through it: an array of 32 words that holds the half-blocks made so far, with zeros behind them.
-- Assumes nothing.
use mathlib.Core.Path.{◌≡◌, refl, sym, ap, ap₂, ◌∙◌}
use mathlib.Core.List.{List, [], ◌∷◌, ◌++◌, append_assoc, append-nil}
use mathlib.Core.Bool.{Bool}
use Prim.Native.Nat.{ℕ, zero, suc, ◌+◌, ◌-◌, ◌*◌, ◌^◌, ◌≤◌, ◌<◌}
use native.Mathlib.Nat.{mul_comm, zero-mul, suc-mul, add-mul}
use native.Mathlib.Numerals.{add-one}
use native.Mathlib.Omega.{arith}
use lib.Bits.{bit_xor, xor_comm}
use lib.ListN.{length, get_or, take, drop, set, replicate, length-append, length-replicate, get_or-append, get_or-eq_default}
use lib.Seq.{set_at, append_snoc}
use Rattle.forms.specs.Lists.{tabulate, xor_sum, when}
use Rattle.forms.specs.Words.{join, rotl, words}
use Rattle.forms.proofs.Lists.{length_tabulate, tabulate_cong, tabulated, tabulate_snoc}
use Rattle.forms.proofs.Sums.{xor_sum_cong}
use Rattle.forms.proofs.Bytes.{length_words}
use Rattle.labyrinth.specs.Blocks.{each, zip}
use Rattle.labyrinth.specs.Cipher.{F}
use Rattle.labyrinth.specs.Keys.{half, register, delta, grow, expanded_words}
use Rattle.labyrinth.specs.declared.Expanded.{Expanded}
use Rattle.labyrinth.specs.Refusals.{legal, padded, expansion}
use Rattle.labyrinth.specs.Working.{Size, four_words}
use Rattle.labyrinth.proofs.Sizes.{sizes, legal_size}
use Rattle.labyrinth.proofs.FourWords.{taken}
use Rattle.labyrinth.proofs.Blocks.{length_zip}
use Rattle.labyrinth.proofs.Agree.{expanded_words_agree}

-- ---- zeros behind a list do not show

zeros : (m i : ℕ) → ◌≡◌ {A = ℕ} (get_or (replicate m 0) i 0) 0
zeros zero i = refl
zeros (suc m) zero = refl
zeros (suc m) (suc i) = zeros m i

behind : (xs : List ℕ) (m i : ℕ) → get_or (xs ++ replicate m 0) i 0 ≡ get_or xs i 0
behind [] m i = zeros m i
behind (x ∷ xs) m zero = refl
behind (x ∷ xs) m (suc i) = behind xs m i

pub get_or_padded : (xs : List ℕ) (i : ℕ) → get_or (padded xs) i 0 ≡ get_or xs i 0
unfolding padded
get_or_padded xs i = behind xs (32 - length xs) i

pub half_padded : (n : ℕ) (xs : List ℕ) (j : ℕ) → half n (padded xs) j ≡ half n xs j
unfolding half
half_padded n xs j = tabulate_cong n (λ i. get_or (padded xs) (j * n + i) 0) (λ i. get_or xs (j * n + i) 0) (λ i l. get_or_padded xs (j * n + i))

pub register_padded : (n l : ℕ) (xs : List ℕ) → register n l (padded xs) ≡ register n l xs
unfolding register
register_padded n l xs =
    tabulate_cong n (λ i. rotl (xor_sum l (λ j. get_or (padded xs) (j * n + i) 0)) 29) (λ i. rotl (xor_sum l (λ j. get_or xs (j * n + i) 0)) 29)
    (λ i m. ap (λ (x : ℕ). rotl x 29) (xor_sum_cong l (λ j. get_or (padded xs) (j * n + i) 0) (λ j. get_or xs (j * n + i) 0) (λ j o. get_or_padded xs (j * n + i))))

-- ---- one word more

pub padded_push : (xs : List ℕ) (v k : ℕ) → length xs ≡ k → k < 32 → set (padded xs) k v ≡ padded (xs ++ (v ∷ []))
unfolding padded
padded_push xs v k e h =
    let a : 32 - length xs ≡ suc (31 - k) = omega arith in
    let b : 32 - length (xs ++ (v ∷ [])) ≡ 31 - k = omega (arith, length-append xs (v ∷ [])) in
    rw (a, b) (set_at xs 0 (replicate (31 - k) 0) v k e ∙ sym (append_snoc xs v (replicate (31 - k) 0)))

-- loading the key: word i more
pub load_more : (key r : List ℕ) (i v : ℕ) → r ≡ padded (words i key) → i < 32 → v ≡ join 8 (λ b. get_or key (8 * i + b) 0) → set r i v ≡ padded (words (i + 1) key)
unfolding words
load_more key r i v e h q =
    let f : ℕ → ℕ = λ j. join 8 (λ b. get_or key (8 * j + b) 0) in
    ap (λ (z : List ℕ). set z i v) e ∙ padded_push (words i key) v i (length_words i key) h
    ∙ ap (λ (x : ℕ). padded (words i key ++ (x ∷ []))) q
    ∙ ap padded (sym (tabulate_snoc i f) ∙ ap (λ (m : ℕ). tabulate m f) (sym (add-one i)))

-- laying words f behind ks: word i more
pub put_more : (ks r : List ℕ) (f : ℕ → ℕ) (at i : ℕ) {k v : ℕ} → length ks ≡ at → r ≡ padded (ks ++ tabulate i f) → k ≡ at + i → k < 32 → v ≡ f i
    → set r k v ≡ padded (ks ++ tabulate (i + 1) f)
put_more ks r f at i {k} {v} e q w h p =
    ap₂ (λ (z : List ℕ) (x : ℕ). set z x v) q w
    ∙ padded_push (ks ++ tabulate i f) v (at + i) (length-append ks (tabulate i f) ∙ ap₂ ◌+◌ e (length_tabulate i f)) (omega arith)
    ∙ ap padded (append_assoc ks (tabulate i f) (v ∷ []) ∙ ap (λ (z : List ℕ). ks ++ z) (ap (λ (x : ℕ). tabulate i f ++ (x ∷ [])) p ∙ sym (tabulate_snoc i f) ∙ ap (λ (k : ℕ). tabulate k f) (sym (add-one i))))

pub put_none : (ks : List ℕ) (f : ℕ → ℕ) → padded ks ≡ padded (ks ++ tabulate 0 f)
unfolding tabulate
put_none ks f = ap padded (sym (append-nil ks))

-- ---- the walk: j half-blocks stand, and what is left to do gives the whole

pub record Grown (SM : ℕ → ℕ) (n l j : ℕ) (g w total : List ℕ) : Type 0 where
  pub ks : List ℕ
  pub len : length ks ≡ j * n
  pub held : w ≡ padded ks
  pub rest : grow SM n l j (8 - j) g ks ≡ total

pub grown_start : (SM : ℕ → ℕ) (n l : ℕ) (key w g : List ℕ) → w ≡ padded (words (n * l) key) → g ≡ register n l w
    → Grown SM n l l g w (expanded_words SM n l key)
unfolding expanded_words
grown_start SM n l key w g e q = record {
  ks = words (n * l) key;
  len = length_words (n * l) key ∙ mul_comm n l;
  held = e;
  rest = ap (λ (z : List ℕ). grow SM n l l (8 - l) z (words (n * l) key)) (q ∙ ap (register n l) e ∙ register_padded n l (words (n * l) key));
}

pub grown_more : (SM : ℕ → ℕ) (n l j : ℕ) (g w total : List ℕ) {g' y w' : List ℕ} → Grown SM n l j g w total → j < 8
    → g' ≡ delta n g → y ≡ zip n bit_xor (F SM n g' (half n w (j - 1))) (half n w (j - l))
    → ((ks : List ℕ) → length ks ≡ j * n → w ≡ padded ks → w' ≡ padded (ks ++ y)) → Grown SM n l (j + 1) g' w' total
unfolding grow
grown_more SM n l j g w total {g'} {y} {w'} p h eg ey ew = record {
  ks = p.ks ++ y;
  len = length-append p.ks y ∙ omega (arith, p.len, ap length ey, length_zip n bit_xor (F SM n g' (half n w (j - 1))) (half n w (j - l)), suc-mul j n, ap (λ (k : ℕ). k * n) (add-one j));
  held = ew p.ks p.len p.held;
  rest = sym (ap (λ (m : ℕ). grow SM n l j m g p.ks) s ∙ ap₂ (λ (u v : List ℕ). grow SM n l (j + 1) (8 - (j + 1)) u (p.ks ++ v)) (sym eg) (sym q)) ∙ p.rest;
}
  where
    s : 8 - j ≡ suc (8 - (j + 1))
    s = omega arith

    kept : (i : ℕ) → half n w i ≡ half n p.ks i
    kept i = ap (λ (z : List ℕ). half n z i) p.held ∙ half_padded n p.ks i

    q : y ≡ zip n bit_xor (F SM n (delta n g) (half n p.ks (j - 1))) (half n p.ks (j - l))
    q = ey ∙ ap₂ (λ (a b : List ℕ). zip n bit_xor (F SM n a b) (half n w (j - l))) eg (kept (j - 1)) ∙ ap (zip n bit_xor (F SM n (delta n g) (half n p.ks (j - 1)))) (kept (j - l))

pub grown_end : (SM : ℕ → ℕ) (n l j : ℕ) (g w total : List ℕ) → Grown SM n l j g w total → j ≡ 8 → w ≡ padded total
unfolding grow
grown_end SM n l j g w total p e =
    let z : 8 - j ≡ 0 = omega arith in
    p.held ∙ ap padded (ap (λ (m : ℕ). grow SM n l j m g p.ks) (sym z) ∙ p.rest)

-- ---- the walk in the code's own terms: halves in arrays of four words

zip_comm : (n : ℕ) (x y : List ℕ) → zip n bit_xor x y ≡ zip n bit_xor y x
unfolding zip
zip_comm n x y = tabulate_cong n (λ j. bit_xor (get_or x j 0) (get_or y j 0)) (λ j. bit_xor (get_or y j 0) (get_or x j 0)) (λ j l. xor_comm (get_or x j 0) (get_or y j 0))

front : (n : ℕ) (z r : List ℕ) → length z ≡ n → tabulate n (λ i. get_or (z ++ r) i 0) ≡ z
front n z r e = sym (tabulated n (λ i. get_or (z ++ r) i 0) 0 z e (λ i l. sym (get_or-append z r 0 i (omega arith))))

half_taken : (n : ℕ) (w : List ℕ) (j : ℕ) {r : List ℕ} → n ≤ 4 → r ≡ four_words (half n w j) → take n r ≡ half n w j
unfolding half
half_taken n w j h e = taken n _ h e

pub register_taken : (n l : ℕ) (w : List ℕ) {r : List ℕ} → n ≤ 4 → r ≡ four_words (register n l w) → take n r ≡ register n l w
unfolding register
register_taken n l w h e = taken n _ h e

delta_taken : (n : ℕ) (g : List ℕ) {r : List ℕ} → n ≤ 4 → r ≡ four_words (delta n g) → take n r ≡ delta n g
unfolding delta each
delta_taken n g h e = taken n _ h e

pub grown_step : (SM : ℕ → ℕ) (n l j : ℕ) (g w total : List ℕ) {g' a b y w' : List ℕ} → Size n → Grown SM n l j (take n g) w total → j < 8
    → g' ≡ four_words (delta n (take n g)) → a ≡ four_words (half n w (j - l)) → b ≡ four_words (half n w (j - 1))
    → y ≡ when (legal n) (zip n bit_xor (take n a) (F SM n (take n g') (take n b)) ++ drop n b) b
    → ((ks : List ℕ) → length ks ≡ j * n → w ≡ padded ks → w' ≡ padded (ks ++ tabulate n (λ i. get_or y i 0)))
    → Grown SM n l (j + 1) (take n g') w' total
grown_step SM n l j g w total {g'} {a} {b} {y} s p h eg ea eb ey ew =
    let z : List ℕ = zip n bit_xor (take n a) (F SM n (take n g') (take n b)) in
    let ey' : y ≡ z ++ drop n b = ey ∙ ap (λ (t : Bool). when t (z ++ drop n b) b) (legal_size n s) in
    grown_more SM n l j (take n g) w total p h (delta_taken n (take n g) s.top eg)
    (ap (λ (x : List ℕ). tabulate n (λ i. get_or x i 0)) ey' ∙ front n z (drop n b) (length_zip n bit_xor (take n a) (F SM n (take n g') (take n b)))
    ∙ ap₂ (λ (u v : List ℕ). zip n bit_xor u (F SM n (take n g') v)) (half_taken n w (j - l) s.top ea) (half_taken n w (j - 1) s.top eb)
    ∙ zip_comm n (half n w (j - l)) (F SM n (take n g') (half n w (j - 1))))
    ew

-- ---- the sizes at hand

pub product : (n : ℕ) → Size n → (l : ℕ) → l ≤ 4 → n * l ≤ 16
product = sizes (λ n. (l : ℕ) → l ≤ 4 → n * l ≤ 16) (λ l h. omega arith) (λ l h. omega arith) (λ l h. omega arith)

pub within : (n : ℕ) → Size n → (j i : ℕ) → j < 8 → i < n → j * n + i < 32
within = sizes (λ n. (j i : ℕ) → j < 8 → i < n → j * n + i < 32) (λ j i h l. omega arith) (λ j i h l. omega arith) (λ j i h l. omega arith)

-- ---- 8n words, and zeros behind them

length_grow : (SM : ℕ → ℕ) (n l j m : ℕ) (g ks : List ℕ) → length (grow SM n l j m g ks) ≡ length ks + m * n
unfolding grow
length_grow SM n l j zero g ks = omega (arith, zero-mul n)
length_grow SM n l j (suc m) g ks =
    let k = zip n bit_xor (F SM n (delta n g) (half n ks (j - 1))) (half n ks (j - l)) in
    length_grow SM n l (j + 1) m (delta n g) (ks ++ k) ∙ omega (arith, length-append ks k, length_zip n bit_xor (F SM n (delta n g) (half n ks (j - 1))) (half n ks (j - l)), suc-mul m n)

pub length_expanded_words : (SM : ℕ → ℕ) (n l : ℕ) (key : List ℕ) → l ≤ 8 → length (expanded_words SM n l key) ≡ 8 * n
unfolding expanded_words
length_expanded_words SM n l key h =
    length_grow SM n l l (8 - l) (register n l (words (n * l) key)) (words (n * l) key)
    ∙ ap (λ (k : ℕ). k + (8 - l) * n) (length_words (n * l) key ∙ mul_comm n l) ∙ sym (add-mul l (8 - l) n) ∙ ap (λ (k : ℕ). k * n) (split l h)
  where
    split : (l : ℕ) → l ≤ 8 → l + (8 - l) ≡ 8
    split l h = omega arith

-- a list of at most 32 words: 32 then, and zero from its end on
pub length_padded : (ws : List ℕ) → length ws ≤ 32 → length (padded ws) ≡ 32
unfolding padded
length_padded ws h = length-append ws (replicate (32 - length ws) 0) ∙ omega (arith, length-replicate {A = ℕ} (32 - length ws) 0)

pub padded_zero : (ws : List ℕ) (i : ℕ) → length ws ≤ i → get_or (padded ws) i 0 ≡ 0
padded_zero ws i h = get_or_padded ws i ∙ get_or-eq_default ws 0 h

-- ---- what expansion answers

-- the number that it was given, and with a refusal the blank key
module _ (SM : ℕ → ℕ) (set n l : ℕ) (key : List ℕ) where
  pub expansion_number : (r : ℕ) → (expansion SM set n l key r).number ≡ r
  unfolding expansion
  expansion_number zero = refl
  expansion_number (suc r) = refl

  pub expansion_blank : (r : ℕ) → (r ≡ 0 → ⊥) → (expansion SM set n l key r).key ≡ record { n = 0; set = 0; words = padded [] }
  unfolding expansion
  expansion_blank zero h = absurd (h refl)
  expansion_blank (suc r) h = refl

  -- a refused key, by its number
  pub refused_is : (number : ℕ) {r : ℕ} {x : Expanded} → number ≡ r → (number ≡ 0 → ⊥)
      → x ≡ record { number = number; key = record { n = 0; set = 0; words = padded [] } } → x ≡ expansion SM set n l key r
  unfolding expansion
  refused_is zero e z p = absurd (z refl)
  refused_is (suc m) e z p = p ∙ ap (expansion SM set n l key) e

-- a key that is taken; the engine's word map agrees with SM on words
made : ℕ → ℕ → List ℕ → Expanded
made set n w = record { number = 0; key = record { n = n; set = set; words = w } }

pub taken_is : (SM SM' : ℕ → ℕ) → ((x : ℕ) → x < 2 ^ 64 → SM' x ≡ SM x) → (set n l : ℕ) (key : List ℕ) {r : ℕ} {w : List ℕ} → r ≡ 0
    → w ≡ padded (expanded_words SM' n l key) → record { number = 0; key = record { n = n; set = set; words = w } } ≡ expansion SM set n l key r
unfolding expansion made
taken_is SM SM' h set n l key e p = ap (made set n) (p ∙ ap padded (expanded_words_agree SM' SM h n l key)) ∙ ap (expansion SM set n l key) (sym e)
