-- The block operations' contracts: the three phases make the line, and the line by parts that agree with p is E or U of p.
-- Assumes nothing.
use mathlib.Core.Path.{◌≡◌, refl, sym, ap, ◌∙◌}
use mathlib.Core.Bool.{Bool, true, false, ◌&&◌}
use mathlib.Core.List.{List, []}
use Prim.Native.Nat.{ℕ, zero, suc, ◌+◌, ◌*◌, ◌≤◌}
use native.Mathlib.Omega.{arith}
use borrow.Author.Tests.{eq-eqb, ne_eqb}
use lib.Bits.{bit_xor}
use lib.Dec.{eqb}
use lib.ListN.{length, drop}
use lib.Seq.{take_at}
use Rattle.forms.specs.Lists.{when}
use Rattle.forms.specs.Refusals.{unless, outcome}
use Rattle.forms.proofs.Refusals.{outcome_cong}
use Rattle.labyrinth.specs.declared.Halves.{Halves}
use Rattle.labyrinth.specs.Blocks.{Block, load, store}
use Rattle.labyrinth.specs.Cipher.{Parts, IMix, IT, FT, round, rounds, exchange, EF}
use Rattle.labyrinth.specs.Keys.{half}
use Rattle.labyrinth.specs.Refusals.{legal, block_refusal}
use Rattle.labyrinth.specs.Working.{Size, held, block_in, laid, fits, schedule, line, line_bytes, lendable, lent_refusal, way}
use Rattle.labyrinth.proofs.Sizes.{legal_size}
use Rattle.labyrinth.proofs.Blocks.{length_zip, pair}
use Rattle.labyrinth.proofs.FourWords.{take_four}
use Rattle.labyrinth.proofs.Refusals.{block_iff, legal_iff, legal_size_of}
use Rattle.labyrinth.proofs.Agree.{Agree, EF_agree}
use Rattle.labyrinth.proofs.Schedule.{line_E, line_U}

-- what a block that is taken has
pub record Block_taken (n s d : ℕ) : Type 0 where
  pub size : Size n
  pub source : s ≡ 16 * n
  pub destination : d ≡ 16 * n

pub block_taken : (n s d : ℕ) {r : ℕ} → r ≡ block_refusal n s d → r ≡ 0 → Block_taken n s d
block_taken n s d p e =
    let h = (block_iff n s d).0 (sym p ∙ e) in
    record { size = legal_size_of n ((legal_iff n).1 h.0); source = h.1; destination = h.2 }

-- ---- the line by parts q that agree with p, under a schedule, is E or U of p

module _ {q p : Parts} (agree : Agree q p) (back : Bool) (n : ℕ) (ws : List ℕ) {ks : List ℕ} (scheduled : ks ≡ schedule n ws back) where
  -- on a block
  pub line_way : Size n → (b : List ℕ) → line_bytes q n ks b ≡ way p back n ws b
  unfolding line_bytes line
  line_way size b = ap (λ (x : List ℕ). line_bytes q n x b) scheduled ∙ ap (store n) (EF_agree q p agree n _ _ _ (load n b)) ∙ either back
    where
      either : (d : Bool) → line_bytes p n (schedule n ws d) b ≡ way p d n ws b
      either false = line_E p n size ws b
      either true = line_U p n size ws b

  -- as a block map
  pub map_way : Size n → line_bytes q n ks ≡ way p back n ws
  map_way size = λ i b. line_way size b i

  -- in a block operation
  pub block_way : (src dst : List ℕ) {r : ℕ} {d : List ℕ} → r ≡ block_refusal n (length src) (length dst)
      → d ≡ outcome r (line_bytes q n ks src) dst → d ≡ outcome r (way p back n ws src) dst
  block_way src dst {r} number e =
      e ∙ outcome_cong r (line_bytes q n ks src) (way p back n ws src) dst (λ z. line_way (block_taken n (length src) (length dst) number z).size src)

-- ---- the three phases

pair_lengths : ℕ → Block → Type 0
pair_lengths n s = (length s.0 ≡ n) × (length s.1 ≡ n)

length_IT : (S : ℕ → ℕ) (n : ℕ) (k s : Block) → pair_lengths n (IT S n k s)
unfolding IT IMix pair_lengths
length_IT S n k s = (length_zip n bit_xor _ _, length_zip n bit_xor _ _)

length_rounds : (SM : ℕ → ℕ) (n : ℕ) (K : ℕ → List ℕ) (m : ℕ) (s : Block) → pair_lengths n s → pair_lengths n (rounds SM n K m s)
unfolding rounds round pair_lengths
length_rounds SM n K zero s e = e
length_rounds SM n K (suc m) s e = ((length_rounds SM n K m s e).1, length_zip n bit_xor _ _)

block_in_held : (n : ℕ) (s : Block) → n ≤ 4 → pair_lengths n s → block_in n (held s) ≡ s
unfolding block_in held pair_lengths
block_in_held n s h e = pair (take_four n s.0 e.0 h) (take_four n s.1 e.1 h)

block_in_laid : (n : ℕ) (s : Block) (h : Halves) → pair_lengths n s → block_in n (laid n s h) ≡ s
unfolding block_in laid pair_lengths
block_in_laid n s h e = pair (take_at s.0 (drop n h.high) n e.0) (take_at s.1 (drop n h.low) n e.1)

fits_taken : (n : ℕ) (buffer : List ℕ) → Size n → length buffer ≡ 16 * n → fits n buffer ≡ true
unfolding fits
fits_taken n buffer s e = rw (legal_size n s, eq-eqb (length buffer) (16 * n) e)

-- IT from the source, the rounds, the exchange and FT to the destination are the line
pub phases : (p : Parts) (n : ℕ) (ks src dst : List ℕ) (b : Bool) {h h' h'' : Halves} {d : List ℕ} → Block_taken n (length src) (length dst) → b ≡ true
    → h ≡ held (when (fits n src) (IT p.S n (half n ks 1, half n ks 0) (load n src)) ([], []))
    → h' ≡ when b (laid n (rounds p.SM n (λ i. half n ks (i + 2)) 16 (block_in n h)) h) h
    → h'' ≡ record { high = h'.low; low = h'.high }
    → d ≡ when (fits n dst) (store n (FT p.S⁻¹ n (half n ks 19, half n ks 18) (block_in n h''))) dst
    → d ≡ line_bytes p n ks src
unfolding line_bytes line EF block_in
phases p n ks src dst b {h} {h'} {h''} {d} t eb e₁ e₂ e₃ e₄ =
    e₄ ∙ ap (λ (b : Bool). when b (store n (FT p.S⁻¹ n (half n ks 19, half n ks 18) (block_in n h''))) dst) (fits_taken n dst t.size t.destination)
    ∙ ap (λ (z : Block). store n (FT p.S⁻¹ n (half n ks 19, half n ks 18) z)) (ap (block_in n) e₃ ∙ ap exchange after)
  where
    first : Block
    first = IT p.S n (half n ks 1, half n ks 0) (load n src)

    entered : block_in n h ≡ first
    entered =
        ap (block_in n) (e₁ ∙ ap (λ (b : Bool). held (when b first ([], []))) (fits_taken n src t.size t.source))
        ∙ block_in_held n first t.size.top (length_IT p.S n (half n ks 1, half n ks 0) (load n src))

    sixteen : Block → Block
    sixteen s = rounds p.SM n (λ i. half n ks (i + 2)) 16 s

    after : block_in n h' ≡ sixteen first
    after =
        ap (block_in n) (e₂ ∙ ap (λ (b : Bool). when b (laid n (sixteen (block_in n h)) h) h) eb ∙ ap (λ (z : Block). laid n (sixteen z) h) entered)
        ∙ block_in_laid n (sixteen first) h (length_rounds p.SM n (λ i. half n ks (i + 2)) 16 first (length_IT p.S n (half n ks 1, half n ks 0) (load n src)))

-- ---- with lent tables

-- the number of the lent operation, as the code finds it
pub lent_refused : (n s d k : ℕ) {r : ℕ} → r ≡ block_refusal n s d → (r ≡ 0 → ⊥) → r ≡ lent_refusal n s d k
unfolding lent_refusal
lent_refused n s d k e h = rw (ne_eqb (block_refusal n s d) 0 (λ z. h (e ∙ z))) e

pub lent_formless : (n s d k : ℕ) {r : ℕ} → r ≡ block_refusal n s d → r ≡ 0 → lendable k ≡ false → 5 ≡ lent_refusal n s d k
unfolding lent_refusal
lent_formless n s d k e z f = rw (sym e ∙ z, f)

pub lent_taken : (n s d k : ℕ) {r : ℕ} → r ≡ block_refusal n s d → r ≡ 0 → lendable k ≡ true → 0 ≡ lent_refusal n s d k
unfolding lent_refusal
lent_taken n s d k e z f = rw (sym e ∙ z, f)

-- what the rounds ask for
pub lent_both : (n k : ℕ) → Size n → lendable k ≡ true → (legal n && lendable k) ≡ true
lent_both n k s e = rw (legal_size n s, e)

-- a table in one of its forms is no reason to refuse
pub lent_number_lem : (n s d k : ℕ) → lendable k ≡ true → lent_refusal n s d k ≡ block_refusal n s d
unfolding lent_refusal
lent_number_lem n s d k e = rw e (passed (block_refusal n s d))
  where
    passed : (r : ℕ) → unless (eqb r 0) r 0 ≡ r
    passed zero = refl
    passed (suc r) = rw (ne_eqb (suc r) 0 (λ e. omega arith))
