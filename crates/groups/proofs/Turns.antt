-- A loop over groups, at every n: a turn of it, and what the whole of it makes of what is lent.
-- Assumes nothing.
use mathlib.Core.Path.{◌≡◌, refl, sym, ap, ap₂, ◌∙◌, fun_ext}
use mathlib.Core.Bool.{Bool, true, ◌&&◌}
use mathlib.Core.List.{List, ◌++◌}
use Prim.Native.Nat.{ℕ, ◌+◌, ◌-◌, ◌*◌, ◌%◌, ◌≤◌}
use native.Mathlib.Omega.{arith}
use borrow.Author.Tests.{eqb-true}
use lib.Dec.{eqb}
use lib.ListN.{length, take, drop, replicate}
use Rattle.forms.specs.Lists.{when}
use Rattle.forms.specs.Words.{words, bytes}
use Rattle.forms.specs.Strings.{xor_bytes}
use Rattle.forms.specs.Mapped.{each_block}
use Rattle.forms.proofs.Booleans.{and_both, when_chosen}
use Rattle.forms.proofs.Bytes.{Bytes}
use Rattle.forms.proofs.Strings.{each_block_one, xor_bytes_zeros}
use Rattle.forms.proofs.EachBlock.{Kept, read_length, read_part, kept_next}
use Rattle.labyrinth.specs.Refusals.{legal}
use Rattle.labyrinth.specs.Working.{Size, eight_tables, lookup_in}
use Rattle.labyrinth.specs.Groups.{besides, apart, joined, spaced, spaced_sub, line_by, wide_lent}
use Rattle.labyrinth.specs.Lent.{lent}
use Rattle.labyrinth.proofs.Sizes.{sizes}
use Rattle.labyrinth.proofs.Blocks.{length_store}
use Rattle.labyrinth.proofs.Refusals.{legal_size_of}
use Rattle.labyrinth.proofs.GroupLines.{group_lent}
use Rattle.labyrinth.proofs.Lent.{lent_wide}

wide_length : (n : ℕ) (t s u ks b : List ℕ) → length (wide_lent n t s u ks b) ≡ 16 * n
unfolding wide_lent
wide_length n t s u ks b = length_store n _

whole_group : (n : ℕ) → Size n → 64 % (16 * n) ≡ 0
whole_group = sizes (λ n. 64 % (16 * n) ≡ 0) refl refl refl

module _ (n : ℕ) (size : Size n) (t s u ks : List ℕ) where
  -- the words of a group, mapped and put under a mask
  pub side_made : (given mask : List ℕ) {x y d : List ℕ} → length given ≡ 64 → x ≡ words 8 given
      → y ≡ joined n (besides n (line_by (spaced_sub s) (spaced_sub u) (lookup_in true t) n ks) (apart n x)) → d ≡ xor_bytes (bytes 8 y) mask
      → d ≡ xor_bytes (each_block (wide_lent n t s u ks) (16 * n) given) mask
  side_made given mask e p q r = r ∙ ap (λ (z : List ℕ). xor_bytes z mask) (group_lent n size t s u ks given e p q)

  -- a group more
  pub group_next : (own : Bool) (src mask before : List ℕ) {dst : List ℕ} {at : ℕ} (e : ℕ) {ys : List ℕ} → e ≡ at + 64 → length before ≡ length src → e ≤ length src
      → Kept (wide_lent n t s u ks) (16 * n) (when own before src) mask before dst at → length ys ≡ length (take (e - at) (drop at dst))
      → ys ≡ xor_bytes (each_block (wide_lent n t s u ks) (16 * n) (when own (take (e - at) (drop at dst)) (take (e - at) (drop at src)))) (take (e - at) (drop at mask))
      → Kept (wide_lent n t s u ks) (16 * n) (when own before src) mask before (take at dst ++ (ys ++ drop (e - at) (drop at dst))) e
  group_next own src mask before {dst} {at} e p same inside k l y =
      let f : e - at ≡ 64 = omega arith in
      kept_next (wide_lent n t s u ks) (16 * n) (when own before src) mask before (wide_length n t s u ks) (omega (arith, size.pos)) e k (omega arith)
      (omega (arith, read_length own before src same)) (ap (λ (x : ℕ). x % (16 * n)) f ∙ whole_group n size) l
      (y ∙ ap (λ (x : List ℕ). xor_bytes (each_block (wide_lent n t s u ks) (16 * n) x) (take (e - at) (drop at mask))) (read_part own before src dst at (e - at) k.stands))

-- ---- all of it

-- what is made of the lent ones gives the block map that they give
pub groups_made : (n : ℕ) (t s u ks given mask before : List ℕ) {eight there back d : List ℕ} {b : Bool}
    → eight ≡ eight_tables t → length t ≡ 256 → there ≡ spaced s → Bytes s → back ≡ spaced u → Bytes u → true ≡ b
    → d ≡ xor_bytes (each_block (wide_lent n eight there back ks) (16 * n) given) mask → d ≡ when b (xor_bytes (each_block (lent n t s u ks) (16 * n) given) mask) before
groups_made n t s u ks given mask before {eight} {there} {back} et lt es hs eu hu taken p =
    p ∙ ap (λ (w : List ℕ → List ℕ). xor_bytes (each_block w (16 * n) given) mask) (fun_ext same)
    ∙ when_chosen _ before taken refl
  where
    same : (x : List ℕ) → wide_lent n eight there back ks x ≡ lent n t s u ks x
    same x = rw (et, es, eu) (sym (lent_wide n t s u ks lt hs hu x))

-- what was tested
pub are_groups_is : (n s k d : ℕ) {r : Bool} → r ≡ (legal n && (eqb (s % 64) 0 && (eqb k s && eqb d s))) → r ≡ true → Size n × (s % 64 ≡ 0) × (k ≡ s) × (d ≡ s)
are_groups_is n s k d e t =
    let a = and_both (legal n) _ (sym e ∙ t) in
    let b = and_both (eqb (s % 64) 0) _ a.1 in
    let c = and_both (eqb k s) (eqb d s) b.1 in
    (legal_size_of n a.0, eqb-true (s % 64) 0 b.0, eqb-true k s c.0, eqb-true d s c.1)

-- one block alone, under a mask of zeros
pub block_alone : (t s u ks src before : List ℕ) {zeros d : List ℕ} {b : Bool} → length src ≡ 64 → zeros ≡ replicate 64 0 → true ≡ b
    → d ≡ xor_bytes (each_block (wide_lent 4 t s u ks) 64 src) zeros → d ≡ when b (wide_lent 4 t s u ks src) before
block_alone t s u ks src before {zeros} e ez taken p =
    p ∙ ap₂ xor_bytes (each_block_one (wide_lent 4 t s u ks) 64 (omega arith) src e) (ez ∙ ap (λ (k : ℕ). replicate k 0) (sym (wide_length 4 t s u ks src)))
    ∙ xor_bytes_zeros (wide_lent 4 t s u ks src) ∙ when_chosen _ before taken refl
