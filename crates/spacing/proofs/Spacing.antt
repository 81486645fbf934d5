-- A list of zeros into which a loop puts a substitution, spaced out.
-- Assumes nothing.
use mathlib.Core.Path.{◌≡◌, sym, ap, ◌∙◌}
use mathlib.Core.Bool.{Bool}
use mathlib.Core.List.{List}
use mathlib.Core.Logic.{◌≢◌}
use Prim.Native.Nat.{ℕ, ◌+◌, ◌*◌, ◌/◌, ◌%◌, ◌≤◌, ◌<◌}
use native.Mathlib.Decide.{ℕ_discrete, dec_lt}
use native.Mathlib.Omega.{arith}
use borrow.Author.Count.{below_more}
use borrow.Author.Tests.{eq-eqb, ne_eqb}
use lib.Dec.{eqb}
use lib.ListN.{get_or, length, set, replicate, length-set, length-replicate, get_or-replicate, get_or-eq_default}
use lib.Seq.{get_or-set_same, get_or-set_other}
use Rattle.forms.specs.Lists.{pick}
use Rattle.forms.proofs.Lists.{tabulated}
use Rattle.labyrinth.specs.Groups.{spaced}

-- the first i bytes of s are there, and all else is 0
pub record Spacing (s : List ℕ) (i : ℕ) (d : List ℕ) : Type 0 where
  pub len : length d ≡ 2056
  pub there : (x : ℕ) → x < i → get_or d (8 * x + 7) 0 ≡ get_or s x 0
  pub between : (k : ℕ) → k < 2056 → k % 8 ≢ 7 → get_or d k 0 ≡ 0
  pub behind : (k : ℕ) → k < 2056 → 8 * i ≤ k → get_or d k 0 ≡ 0

module _ (s : List ℕ) where
  pub spacing_none : {d : List ℕ} → d ≡ replicate 2056 0 → Spacing s 0 d
  spacing_none {d} e = record {
    len = ap length e ∙ length-replicate {A = ℕ} 2056 0;
    there = λ x l. let z : ⊥ = omega arith in absurd z;
    between = λ k l n. zeros k l;
    behind = λ k l h. zeros k l;
  }
    where
      zeros : (k : ℕ) → k < 2056 → get_or d k 0 ≡ 0
      zeros k l = ap (λ (x : List ℕ). get_or x k 0) e ∙ get_or-replicate 2056 k 0 0 l

  pub spacing_more : (i : ℕ) {d : List ℕ} → i < 256 → Spacing s i d → Spacing s (i + 1) (set d (8 * i + 7) (get_or s i 0))
  spacing_more i {d} h p = record {
    len = length-set d (8 * i + 7) (get_or s i 0) ∙ p.len;
    there =
        below_more (λ x. get_or (set d (8 * i + 7) (get_or s i 0)) (8 * x + 7) 0 ≡ get_or s x 0) i
        (λ x l. kept (8 * x + 7) (λ e. let z : ⊥ = omega arith in z) ∙ p.there x l)
        (get_or-set_same d (8 * i + 7) (get_or s i 0) 0 (omega (arith, p.len)));
    between = λ k l n. kept k (λ e. let z : ⊥ = n (omega arith) in z) ∙ p.between k l n;
    behind = λ k l g. kept k (λ e. let z : ⊥ = omega arith in z) ∙ p.behind k l (omega arith);
  }
    where
      kept : (k : ℕ) → k ≢ 8 * i + 7 → get_or (set d (8 * i + 7) (get_or s i 0)) k 0 ≡ get_or d k 0
      kept k n = get_or-set_other d (8 * i + 7) k (get_or s i 0) 0 n

  -- place 2055, where the last word that is read ends, is 0 as well
  pub spacing_all : {i : ℕ} {d : List ℕ} → length s ≡ 256 → i ≡ 256 → Spacing s i d → d ≡ spaced s
  unfolding spaced pick
  spacing_all {i} {d} len end p =
      tabulated 2056 (λ k. pick (eqb (k % 8) 7) (get_or s (k / 8) 0)) 0 d p.len
      (λ k l. elim (ℕ_discrete (k % 8) 7) [ yes e ↦ at k l e | no n ↦ p.between k l n ∙ ap (λ (t : Bool). pick t (get_or s (k / 8) 0)) (sym (ne_eqb (k % 8) 7 n)) ])
    where
      at : (k : ℕ) → k < 2056 → k % 8 ≡ 7 → get_or d k 0 ≡ pick (eqb (k % 8) 7) (get_or s (k / 8) 0)
      at k l e =
          elim (dec_lt (k / 8) 256) [
            | yes h ↦ (let q : k ≡ 8 * (k / 8) + 7 = omega arith in ap (λ (x : ℕ). get_or d x 0) q ∙ p.there (k / 8) (omega arith))
            | no h ↦ p.behind k l (omega arith) ∙ sym (get_or-eq_default s 0 (omega arith))
          ]
          ∙ ap (λ (t : Bool). pick t (get_or s (k / 8) 0)) (sym (eq-eqb (k % 8) 7 e))
