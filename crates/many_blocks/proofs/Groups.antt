-- A string in two parts: whole groups in front, and the blocks that are left.
-- Assumes nothing.
use mathlib.Core.Path.{◌≡◌, refl, sym, ap, ap₂, subst, ◌∙◌}
use mathlib.Core.Bool.{Bool, ◌&&◌}
use mathlib.Core.List.{List, ◌++◌}
use Prim.Native.Nat.{ℕ, ◌+◌, ◌-◌, ◌*◌, ◌/◌, ◌%◌, ◌≤◌}
use native.Mathlib.Omega.{arith}
use borrow.Author.Tests.{eq-eqb}
use lib.Dec.{eqb}
use lib.ListN.{length, take, drop}
use lib.Seq.{length-take-le}
use Rattle.forms.specs.Lists.{when}
use Rattle.forms.specs.Strings.{xor_bytes}
use Rattle.forms.specs.Mapped.{each_block}
use Rattle.forms.proofs.EachBlock.{Kept, read_length, read_part, kept_first, kept_next, kept_last}
use Rattle.labyrinth.specs.Refusals.{legal}
use Rattle.labyrinth.specs.Working.{Size}
use Rattle.labyrinth.proofs.Sizes.{sizes, legal_size}

-- as many bytes as are whole groups
pub groups_within : (k : ℕ) → k / 64 * 64 ≤ k
groups_within k = omega arith

groups_whole : (n : ℕ) → Size n → (k : ℕ) → k / 64 * 64 % (16 * n) ≡ 0
groups_whole = sizes (λ n. (k : ℕ) → k / 64 * 64 % (16 * n) ≡ 0) (λ k. omega arith) (λ k. omega arith) (λ k. omega arith)

-- they are mapped
pub front_taken : (n : ℕ) → Size n → (w : ℕ) (x y src mask dst : List ℕ) {d : List ℕ} → w % 64 ≡ 0 → length src ≡ w → length mask ≡ w → length dst ≡ w
    → d ≡ when (legal n && (eqb (length src % 64) 0 && (eqb (length mask) (length src) && eqb (length dst) (length src)))) x y → d ≡ x
front_taken n size w x y src mask dst h p q r e = e ∙ rw (legal_size n size, p, q, r, eq-eqb (w % 64) 0 h, eq-eqb w w refl) refl

module _ (m : List ℕ → List ℕ) (n : ℕ) (size : Size n) (gives : (b : List ℕ) → length (m b) ≡ 16 * n) (own : Bool) (src mask before : List ℕ)
    (whole : length src % (16 * n) ≡ 0) (long : length mask ≡ length src) (same : length before ≡ length src) where
  xs : List ℕ
  xs = when own before src

  pub front_kept : (k : ℕ) {ys : List ℕ} → let w = k / 64 * 64 in w ≤ length src → length ys ≡ w
      → ys ≡ xor_bytes (each_block m (16 * n) (when own (take w before) (take w src))) (take w mask) → Kept m (16 * n) (when own before src) mask before (ys ++ drop w before) w
  unfolding xs
  front_kept k {ys} h l y =
      let w : ℕ = k / 64 * 64 in
      let z : w ≡ w - 0 = omega arith in
      subst (λ (j : ℕ). Kept m (16 * n) xs mask before (ys ++ drop j before) w) (sym z)
      (kept_next m (16 * n) xs mask before gives (omega (arith, size.pos)) w
      (kept_first m (16 * n) xs mask before (ap (λ (i : ℕ). i % (16 * n)) (read_length own before src same) ∙ whole) (same ∙ sym (read_length own before src same)))
      (omega arith) (omega (arith, read_length own before src same)) (ap (λ (i : ℕ). i % (16 * n)) (sym z) ∙ groups_whole n size k)
      (l ∙ z ∙ sym (length-take-le (w - 0) before (omega arith)))
      (y ∙ ap (λ (x : List ℕ). xor_bytes (each_block m (16 * n) x) (take w mask)) (read_part own before src before 0 w refl)
      ∙ ap (λ (j : ℕ). xor_bytes (each_block m (16 * n) (take j xs)) (take j mask)) z))

  pub rest_kept : {dst : List ℕ} {at : ℕ} {ys : List ℕ} → Kept m (16 * n) (when own before src) mask before dst at → length ys ≡ length (take (length dst - at) (drop at dst))
      → ys ≡ xor_bytes (each_block m (16 * n) (when own (take (length dst - at) (drop at dst)) (take (length src - at) (drop at src)))) (take (length mask - at) (drop at mask))
      → take at dst ++ (ys ++ drop (length dst - at) (drop at dst)) ≡ xor_bytes (each_block m (16 * n) (when own before src)) mask
  unfolding xs
  rest_kept {dst} {at} {ys} k l y =
      let r : length dst ≡ length src = k.same ∙ read_length own before src same in
      let e : ℕ = length dst in
      let on : Kept m (16 * n) xs mask before (take at dst ++ (ys ++ drop (e - at) (drop at dst))) e =
      kept_next m (16 * n) xs mask before gives (omega (arith, size.pos)) e k (omega (arith, k.within, k.same)) (omega (arith, k.same))
      (ap (λ (i : ℕ). (i - at) % (16 * n)) k.same ∙ k.left) l
      (y
      ∙ ap₂ (λ (i j : ℕ). xor_bytes (each_block m (16 * n) (when own (take (e - at) (drop at dst)) (take (i - at) (drop at src)))) (take (j - at) (drop at mask))) (sym r) (long ∙ sym r)
      ∙ ap (λ (x : List ℕ). xor_bytes (each_block m (16 * n) x) (take (e - at) (drop at mask))) (read_part own before src dst at (e - at) k.stands)) in
      kept_last m (16 * n) xs mask before on (omega (arith, on.same, k.same))
