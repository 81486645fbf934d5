-- The eight tables as two loops make them: word i of every table, for one i after another.
-- Assumes nothing.
use mathlib.Core.Path.{◌≡◌, refl, sym, ap, ◌∙◌}
use mathlib.Core.Bool.{Bool, true, false, ◌&&◌}
use mathlib.Core.List.{List}
use mathlib.Core.Logic.{◌≢◌}
use Prim.Native.Nat.{ℕ, ◌+◌, ◌*◌, ◌/◌, ◌%◌, ◌<◌}
use native.Mathlib.Decide.{ℕ_discrete}
use native.Mathlib.Omega.{arith}
use borrow.Author.Tests.{eq-eqb, ne_eqb}
use lib.Dec.{eqb}
use lib.ListN.{get_or, length, set, replicate, length-set, length-replicate}
use lib.Seq.{get_or-set_same, get_or-set_other}
use Rattle.forms.specs.Lists.{tabulate, when}
use Rattle.forms.specs.Words.{rotl}
use Rattle.forms.proofs.Lists.{length_tabulate, get_d_tabulate, tabulated}
use Rattle.labyrinth.specs.Working.{eight_tables}

-- word i of the first b tables is x, rotated, and the words of another number are old
pub record Spreading (x i : ℕ) (old : List ℕ) (b : ℕ) (w : List ℕ) : Type 0 where
  pub len : length w ≡ 2048
  pub there : (k : ℕ) → k < 256 * b → k % 256 ≡ i → get_or w k 0 ≡ rotl x (8 * (k / 256))
  pub kept : (k : ℕ) → k % 256 ≢ i → get_or w k 0 ≡ get_or old k 0

module _ (x i : ℕ) (old : List ℕ) (below : i < 256) where
  pub spreading_none : length old ≡ 2048 → Spreading x i old 0 old
  spreading_none e = record { len = e; there = λ k l. let z : ⊥ = omega arith in absurd z; kept = λ k n. refl }

  pub spreading_more : (b : ℕ) {v : ℕ} {w : List ℕ} → b < 8 → v ≡ rotl x (8 * b) → Spreading x i old b w → Spreading x i old (b + 1) (set w (256 * b + i) v)
  spreading_more b {v} {w} h e p = record {
    len = length-set w (256 * b + i) v ∙ p.len;
    there =
        λ k l m. elim (ℕ_discrete k (256 * b + i)) [
          | yes q ↦ (let d : k / 256 ≡ b = omega arith in
              ap (λ (j : ℕ). get_or (set w (256 * b + i) v) j 0) q ∙ get_or-set_same w (256 * b + i) v 0 (omega (arith, p.len)) ∙ e ∙ ap (λ (j : ℕ). rotl x (8 * j)) (sym d))
          | no n ↦ get_or-set_other w (256 * b + i) k v 0 n ∙ p.there k (omega arith) m
        ];
    kept = λ k n. get_or-set_other w (256 * b + i) k v 0 (λ q. let z : ⊥ = n (omega arith) in z) ∙ p.kept k n;
  }

  pub spreading_all : {b : ℕ} {w : List ℕ} → b ≡ 8 → Spreading x i old b w → w ≡ tabulate 2048 (λ k. when (eqb (k % 256) i) (rotl x (8 * (k / 256))) (get_or old k 0))
  spreading_all {b} {w} e p =
      tabulated 2048 (λ k. when (eqb (k % 256) i) (rotl x (8 * (k / 256))) (get_or old k 0)) 0 w p.len
      (λ k l. elim (ℕ_discrete (k % 256) i) [
        | yes q ↦ p.there k (omega arith) q ∙ sym (chosen k true (eq-eqb (k % 256) i q))
        | no n ↦ p.kept k n ∙ sym (chosen k false (ne_eqb (k % 256) i n))
      ])
    where
      chosen : (k : ℕ) (t : Bool) → eqb (k % 256) i ≡ t → when (eqb (k % 256) i) (rotl x (8 * (k / 256))) (get_or old k 0) ≡ when t (rotl x (8 * (k / 256))) (get_or old k 0)
      chosen k t = ap (λ (a : Bool). when a (rotl x (8 * (k / 256))) (get_or old k 0))

-- the first i words of each of the eight tables are there
pub record Filling (t : List ℕ) (i : ℕ) (w : List ℕ) : Type 0 where
  pub len : length w ≡ 2048
  pub there : (k : ℕ) → k < 2048 → k % 256 < i → get_or w k 0 ≡ rotl (get_or t (k % 256) 0) (8 * (k / 256))

module _ (t : List ℕ) where
  pub filling_none : {w : List ℕ} → length w ≡ 2048 → Filling t 0 w
  filling_none e = record { len = e; there = λ k l h. let z : ⊥ = omega arith in absurd z }

  pub filling_more : (i : ℕ) {old w : List ℕ} → w ≡ tabulate 2048 (λ k. when (eqb (k % 256) i) (rotl (get_or t i 0) (8 * (k / 256))) (get_or old k 0))
      → Filling t i old → Filling t (i + 1) w
  filling_more i {old} {w} e p = record {
    len = ap length e ∙ length_tabulate 2048 F;
    there =
        λ k l h. ap (λ (v : List ℕ). get_or v k 0) e ∙ get_d_tabulate 2048 F 0 k l
        ∙ elim (ℕ_discrete (k % 256) i) [
          | yes q ↦ ap (λ (a : Bool). when a (rotl (get_or t i 0) (8 * (k / 256))) (get_or old k 0)) (eq-eqb (k % 256) i q) ∙ ap (λ (j : ℕ). rotl (get_or t j 0) (8 * (k / 256))) (sym q)
          | no n ↦ ap (λ (a : Bool). when a (rotl (get_or t i 0) (8 * (k / 256))) (get_or old k 0)) (ne_eqb (k % 256) i n) ∙ p.there k l (omega arith)
        ];
  }
    where
      F : ℕ → ℕ
      F k = when (eqb (k % 256) i) (rotl (get_or t i 0) (8 * (k / 256))) (get_or old k 0)

  pub filling_all : {i : ℕ} {w : List ℕ} → i ≡ 256 → Filling t i w → w ≡ eight_tables t
  unfolding eight_tables
  filling_all {i} {w} e p = tabulated 2048 (λ k. rotl (get_or t (k % 256) 0) (8 * (k / 256))) 0 w p.len (λ k l. p.there k l (omega arith))

-- where the lengths are right, all eight tables are filled
pub eight_filled : (t w : List ℕ) {d : List ℕ} → length t ≡ 256 → w ≡ replicate 2048 0 → d ≡ when (eqb (length t) 256 && eqb (length w) 2048) (eight_tables t) w → d ≡ eight_tables t
eight_filled t w p q e = e ∙ rw (eq-eqb (length t) 256 p, eq-eqb (length w) 2048 (ap length q ∙ length-replicate {A = ℕ} 2048 0)) refl
