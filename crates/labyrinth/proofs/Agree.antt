-- Parts that agree on bytes and words give the same block map and the same expansion. The parts of a substitution with its inverse and a row
-- are sound, so the article's; those by the merged table, in either form, and by the matrix agree with them. What a working key's unused
-- words hold matters to nothing.
-- Assumes nothing.
use mathlib.Core.Path.{◌≡◌, refl, ap, ap₂, ◌∙◌, fun_ext}
use mathlib.Core.Bool.{true, false}
use mathlib.Core.Logic.{◌⊎◌, inl, inr}
use mathlib.Core.List.{List, ◌++◌}
use Prim.Native.Nat.{ℕ, zero, suc, ◌+◌, ◌-◌, ◌*◌, ◌/◌, ◌%◌, ◌^◌, ◌<◌}
use native.Mathlib.Omega.{arith}
use lib.Arith.{digits_lt}
use lib.Bits.{bit_xor}
use lib.Dec.{ltb, ltb→lt}
use lib.ListN.{length, get_or}
use Rattle.forms.specs.Words.{byte, rotl, rotr, each_byte, words}
use Rattle.forms.proofs.Tests.{tested_at}
use Rattle.forms.proofs.Lists.{length_tabulate, get_d_tabulate, tabulate_cong}
use Rattle.forms.proofs.Sums.{xor_sum_cong}
use Rattle.forms.proofs.Words.{byte_lt, each_cong, OnBytes}
use Rattle.forms.proofs.Bytes.{tabulate_small, good_words, bytes_small}
use Rattle.field.specs.Substitution.{sub, sub_inv, invert}
use Rattle.field.specs.Mixing.{matrix, mix_by, mix}
use Rattle.field.specs.Merged.{entry, merged, lookup}
use Rattle.field.specs.Published.{table1, row}
use Rattle.field.proofs.Mixing.{mix_lt}
use Rattle.field.proofs.Substitution.{Undo, table1_undo, sub_invert}
use Rattle.field.proofs.Merged.{lookup_merged}
use Rattle.labyrinth.specs.Blocks.{Block, plus, minus, each, zip, load, store}
use Rattle.labyrinth.specs.Cipher.{Parts, parts_of, article, P, SL, F, IMix, IT, FT, round, rounds, exchange, EF}
use Rattle.labyrinth.specs.Keys.{half, order, register, delta, grow, expanded_words, E, U}
use Rattle.labyrinth.specs.Working.{eight_tables, lendable, wide, share, lookup_in, table_parts, matrix_parts}
use Rattle.labyrinth.proofs.Blocks.{pair}
use Rattle.labyrinth.proofs.Undo.{Sound, rounds_cong}

pub record Agree (p q : Parts) : Type 0 where
  pub S : (x : ℕ) → x < 2 ^ 8 → p.S x ≡ q.S x
  pub S⁻¹ : (x : ℕ) → x < 2 ^ 8 → p.S⁻¹ x ≡ q.S⁻¹ x
  pub SM : (w : ℕ) → w < 2 ^ 64 → p.SM w ≡ q.SM w

IT_cong : (f g : ℕ → ℕ) → ((x : ℕ) → x < 2 ^ 8 → f x ≡ g x) → (n : ℕ) (k s : Block) → IT f n k s ≡ IT g n k s
unfolding IT
IT_cong f g h n k s =
    ap (λ (m : ℕ → ℕ). IMix n (each n (λ w. rotl w 2) (each n m (zip n plus s.0 k.0)), each n (λ w. rotr w 2) (each n m (zip n plus s.1 k.1)))) (fun_ext (each_cong f g h))

-- the two halves after IMix, by a map m at each word
leave : (ℕ → ℕ) → ℕ → Block → Block → Block
leave m n k u = (zip n minus (each n m (each n (λ w. rotr w 2) u.0)) k.0, zip n minus (each n m (each n (λ w. rotl w 2) u.1)) k.1)

FT_cong : (f g : ℕ → ℕ) → ((x : ℕ) → x < 2 ^ 8 → f x ≡ g x) → (n : ℕ) (k s : Block) → FT f n k s ≡ FT g n k s
unfolding FT leave
FT_cong f g h n k s = ap (λ (m : ℕ → ℕ). leave m n k (IMix n s)) (fun_ext (each_cong f g h))

pub P_small : (n : ℕ) (x : List ℕ) (t : ℕ) → get_or (P n x) t 0 < 2 ^ 64
unfolding P
P_small n x t =
    (good_words n _ (tabulate_small (8 * n) _ (2 ^ 8) (omega arith) (λ i. bytes_small n x _))).small t

SL_cong : (f g : ℕ → ℕ) (t w : ℕ) → f w ≡ g w → SL f t w ≡ SL g t w
unfolding SL
SL_cong f g t w e = ap₂ bit_xor e refl

module _ (f g : ℕ → ℕ) (h : (w : ℕ) → w < 2 ^ 64 → f w ≡ g w) where
  pub F_cong : (n : ℕ) (k x : List ℕ) → F f n k x ≡ F g n k x
  unfolding F
  F_cong n k x =
      let y : List ℕ = P n (zip n plus x k) in
      tabulate_cong n (λ t. SL f t (get_or y t 0)) (λ t. SL g t (get_or y t 0))
      (λ t l. SL_cong f g t (get_or y t 0) (h (get_or y t 0) (P_small n (zip n plus x k) t)))

  rounds_agree : (n : ℕ) (K : ℕ → List ℕ) (m : ℕ) (s : Block) → rounds f n K m s ≡ rounds g n K m s
  unfolding rounds round
  rounds_agree n K zero s = refl
  rounds_agree n K (suc m) s =
      ap (round f n (K m)) (rounds_agree n K m s)
      ∙ pair refl (ap (zip n bit_xor (rounds g n K m s).0) (F_cong n (K m) (rounds g n K m s).1))

  grow_agree : (n l j m : ℕ) (kKS ks : List ℕ) → grow f n l j m kKS ks ≡ grow g n l j m kKS ks
  unfolding grow
  grow_agree n l j zero kKS ks = refl
  grow_agree n l j (suc m) kKS ks =
      ap (λ (z : List ℕ). grow f n l (j + 1) m (delta n kKS) (ks ++ zip n bit_xor z (half n ks (j - l)))) (F_cong n (delta n kKS) (half n ks (j - 1)))
      ∙ grow_agree n l (j + 1) m (delta n kKS) (ks ++ zip n bit_xor (F g n (delta n kKS) (half n ks (j - 1))) (half n ks (j - l)))

  pub expanded_words_agree : (n l : ℕ) (key : List ℕ) → expanded_words f n l key ≡ expanded_words g n l key
  unfolding expanded_words
  expanded_words_agree n l key = grow_agree n l l (8 - l) (register n l (words (n * l) key)) (words (n * l) key)

pub EF_agree : (p q : Parts) → Agree p q → (n : ℕ) (a : Block) (K : ℕ → List ℕ) (b s : Block) → EF p n a K b s ≡ EF q n a K b s
unfolding EF
EF_agree p q h n a K b s =
    FT_cong p.S⁻¹ q.S⁻¹ h.S⁻¹ n b _
    ∙ ap (λ (z : Block). FT q.S⁻¹ n b (exchange z)) (rounds_agree p.SM q.SM h.SM n K 16 (IT p.S n a s))
    ∙ ap (λ (z : Block). FT q.S⁻¹ n b (exchange (rounds q.SM n K 16 z))) (IT_cong p.S q.S h.S n a s)

-- ---- the parts of a substitution and a row

pub parts_of_sound : (s g : List ℕ) → Undo (sub s) (sub_inv s) → Sound (parts_of s g)
unfolding parts_of
parts_of_sound s g u = record { undo = u; on_words = λ w. mix_lt g (each_byte (sub s) w) }

pub article_sound : Sound article
unfolding article
article_sound = parts_of_sound table1 row table1_undo

-- ---- a table as it is lent

pub merged_length : (g s : List ℕ) → length (merged g s) ≡ 256
unfolding merged
merged_length g s = length_tabulate 256 (entry g s)

pub eight_length : (t : List ℕ) → length (eight_tables t) ≡ 2048
unfolding eight_tables
eight_length t = length_tabulate 2048 (λ i. rotl (get_or t (i % 256) 0) (8 * (i / 256)))

pub narrow : (t : List ℕ) → length t ≡ 256 → (w : ℕ) → lookup_in (wide t) t w ≡ lookup_in false t w
unfolding wide
narrow t e w = rw e

-- the eight tables give what the one gives
pub share_eight : (t : List ℕ) (b x : ℕ) → b < 8 → x < 2 ^ 8 → share true (eight_tables t) b x ≡ share false t b x
unfolding share eight_tables
share_eight t b x l m =
    let q : (256 * b + x) % 256 ≡ x = omega arith in
    let d : (256 * b + x) / 256 ≡ b = omega arith in
    get_d_tabulate 2048 (λ i. rotl (get_or t (i % 256) 0) (8 * (i / 256))) 0 (256 * b + x) (omega arith) ∙ ap₂ (λ (y k : ℕ). rotl (get_or t y 0) (8 * k)) q d

pub eight_give : (t : List ℕ) (w : ℕ) → lookup_in (wide (eight_tables t)) (eight_tables t) w ≡ lookup_in false t w
unfolding wide lookup_in
eight_give t w =
    rw (eight_length t) (xor_sum_cong 8 (λ b. share true (eight_tables t) b (byte w b)) (λ b. share false t b (byte w b)) (λ b l. share_eight t b (byte w b) l (byte_lt w b)))

-- and that is the look-up
pub lookup_is : (t : List ℕ) (w : ℕ) → lookup_in false t w ≡ lookup t w
unfolding lookup_in share lookup
lookup_is t w = refl

-- the table m, in either form
abbrev pub HandedOut : List ℕ → List ℕ → Type 0
HandedOut m t = (t ≡ m) ⊎ (t ≡ eight_tables m)

pub handed_one : {m t : List ℕ} → t ≡ m → HandedOut m t
handed_one e = inl e

pub handed_eight : {m t x : List ℕ} → t ≡ m → x ≡ eight_tables t → HandedOut m x
handed_eight e h = inr (h ∙ ap eight_tables e)

pub handed_lendable : {m t : List ℕ} → length m ≡ 256 → HandedOut m t → lendable (length t) ≡ true
unfolding lendable
handed_lendable l (inl e) = rw (e, l)
handed_lendable {m} l (inr e) = rw (e, eight_length m)

handed_gives : (m : List ℕ) {t : List ℕ} → length m ≡ 256 → HandedOut m t → (w : ℕ) → lookup_in (wide t) t w ≡ lookup_in false m w
handed_gives m l (inl e) w = ap (λ (t : List ℕ). lookup_in (wide t) t w) e ∙ narrow m l w
handed_gives m l (inr e) w = ap (λ (t : List ℕ). lookup_in (wide t) t w) e ∙ eight_give m w

-- ---- the engines' parts

-- those of a substitution s, its inverse, and the merged table, in either form, or the matrix of a row g
module _ (s g : List ℕ) where
  -- look-up is substitution and mixing
  pub lookup_agrees : OnBytes (sub s) → (w : ℕ) → w < 2 ^ 64 → lookup (merged g s) w ≡ (parts_of s g).SM w
  unfolding parts_of
  lookup_agrees on_bytes w l = lookup_merged g s on_bytes w

  pub tables_agree : OnBytes (sub s) → {x u t : List ℕ} → x ≡ s → u ≡ invert s → HandedOut (merged g s) t → Agree (table_parts x u t) (parts_of s g)
  unfolding table_parts parts_of
  tables_agree on_bytes ex eu ht = record {
    S = λ y l. ap (λ (z : List ℕ). sub z y) ex;
    S⁻¹ = λ y l. ap (λ (z : List ℕ). sub z y) eu ∙ sub_invert s y l;
    SM = λ w l. handed_gives (merged g s) (merged_length g s) ht w ∙ lookup_is (merged g s) w ∙ lookup_agrees on_bytes w l;
  }

  pub matrix_agrees : {x u : List ℕ} {m : List (List ℕ)} → x ≡ s → u ≡ invert s → m ≡ matrix g → Agree (matrix_parts x u m) (parts_of s g)
  unfolding matrix_parts parts_of mix
  matrix_agrees ex eu em = record {
    S = λ y l. ap (λ (z : List ℕ). sub z y) ex;
    S⁻¹ = λ y l. ap (λ (z : List ℕ). sub z y) eu ∙ sub_invert s y l;
    SM = λ w l. ap₂ (λ (n : List (List ℕ)) (z : List ℕ). mix_by n (each_byte (sub z) w)) em ex;
  }

-- the published ones, so the article's
pub published_matrix_agrees : {s u : List ℕ} {m : List (List ℕ)} → s ≡ table1 → u ≡ invert table1 → m ≡ matrix row → Agree (matrix_parts s u m) article
unfolding article
published_matrix_agrees = matrix_agrees table1 row

-- ---- the used words of a working key

-- two lists have the same first 8n words
abbrev pub SameUsed : ℕ → List ℕ → List ℕ → Type 0
SameUsed n ws vs = (i : ℕ) → i < 8 * n → get_or ws i 0 ≡ get_or vs i 0

half_used : (n : ℕ) (ws vs : List ℕ) → SameUsed n ws vs → (j : ℕ) → j < 8 → half n ws j ≡ half n vs j
unfolding half
half_used n ws vs e j h = tabulate_cong n (λ i. get_or ws (j * n + i) 0) (λ i. get_or vs (j * n + i) 0) (λ i l. e (j * n + i) (digits_lt h l))

pub order_lt : (i : ℕ) → i < 16 → get_or order i 0 < 8
unfolding order
order_lt i h = ltb→lt (get_or order i 0) 8 (tested_at 16 (λ i. ltb (get_or order i 0) 8) tt i h)

EF_used : (p : Parts) (n : ℕ) (ws vs : List ℕ) → SameUsed n ws vs → (a b c d : ℕ) → a < 8 → b < 8 → c < 8 → d < 8
    → (o : ℕ → ℕ) → ((i : ℕ) → i < 16 → o i < 8) → (s : Block)
    → EF p n (half n ws a, half n ws b) (λ i. half n ws (o i)) (half n ws c, half n ws d) s ≡ EF p n (half n vs a, half n vs b) (λ i. half n vs (o i)) (half n vs c, half n vs d) s
unfolding EF
EF_used p n ws vs e a b c d ha hb hc hd o ho s =
    let u = half_used n ws vs e in
    ap₂ (λ (x y : List ℕ). EF p n (x, y) (λ i. half n ws (o i)) (half n ws c, half n ws d) s) (u a ha) (u b hb)
    ∙ ap₂ (λ (x y : List ℕ). EF p n (half n vs a, half n vs b) (λ i. half n ws (o i)) (x, y) s) (u c hc) (u d hd)
    ∙ ap (λ (z : Block). FT p.S⁻¹ n (half n vs c, half n vs d) (exchange z)) (rounds_cong p.SM n (λ i. half n ws (o i)) (λ i. half n vs (o i)) 16 _ (λ i l. u (o i) (ho i l)))

pub E_used : (p : Parts) (n : ℕ) (ws vs : List ℕ) → SameUsed n ws vs → (b : List ℕ) → E p n ws b ≡ E p n vs b
unfolding E
E_used p n ws vs e b = ap (store n) (EF_used p n ws vs e 7 4 6 3 (omega arith) (omega arith) (omega arith) (omega arith) (λ i. get_or order i 0) order_lt (load n b))

pub U_used : (p : Parts) (n : ℕ) (ws vs : List ℕ) → SameUsed n ws vs → (b : List ℕ) → U p n ws b ≡ U p n vs b
unfolding U
U_used p n ws vs e b =
    ap (store n) (EF_used p n ws vs e 6 3 7 4 (omega arith) (omega arith) (omega arith) (omega arith) (λ i. get_or order (15 - i) 0) (λ i l. order_lt (15 - i) (omega arith)) (load n b))
