-- How many bytes are not zero, and the search for a word with eight zeros among its sixteen bytes.
-- Assumes nothing.
use mathlib.Core.Path.{◌≡◌, refl, sym, ap, ◌∙◌, subst}
use mathlib.Core.Bool.{true}
use mathlib.Core.List.{List}
use Prim.Native.Nat.{ℕ, zero, suc, ◌+◌, ◌-◌, ◌^◌, ◌≤◌, ◌<◌}
use native.Mathlib.Omega.{arith}
use native.Mathlib.Numerals.{add-one}
use native.Mathlib.Decide.{ℕ_discrete}
use lib.Dec.{eqb}
use borrow.Author.Tests.{eqb-true, eqb-false, eq-eqb, ne_eqb}
use Rattle.field.specs.Mixing.{dot, matrix, mix_by, mix}
use Rattle.rows.specs.Inverse.{neutral}
use Rattle.rows.proofs.Ring.{mix_neutral}
use Rattle.judge.specs.Judge.{nonzero, active_bytes, together, GoodEnough, FallsShort, Judged}
use Rattle.judge.specs.Elimination.{Restricted, sixteen, Left, Found}
use Rattle.judge.proofs.Elimination.{mix_by_zero}

-- ---- counts

pub count_zero : (n : ℕ) (f : ℕ → ℕ) → f n ≡ 0 → nonzero (suc n) f ≡ nonzero n f
unfolding nonzero
count_zero n f e = rw (eq-eqb (f n) 0 e) (omega arith)

pub count_one : (n : ℕ) (f : ℕ → ℕ) → (f n ≡ 0 → ⊥) → nonzero (suc n) f ≡ nonzero n f + 1
unfolding nonzero
count_one n f e = rw (ne_eqb (f n) 0 e)

count_more : (n : ℕ) (f : ℕ → ℕ) → nonzero (suc n) f ≤ nonzero n f + 1
count_more n f = elim (ℕ_discrete (f n) 0) [ yes e ↦ omega (arith, count_zero n f e) | no e ↦ omega (arith, count_one n f e) ]

pub nonzero_most : (n : ℕ) (f : ℕ → ℕ) → nonzero n f ≤ n
unfolding nonzero
nonzero_most zero f = omega arith
nonzero_most (suc n) f = omega (arith, count_more n f, nonzero_most n f)

-- one byte more, as a loop has it
pub count_skip : (k : ℕ) (f : ℕ → ℕ) {n b : ℕ} → n ≡ nonzero k f → b ≡ f k → b ≡ 0 → n ≡ nonzero (k + 1) f
count_skip k f e h z = e ∙ sym (count_zero k f (sym h ∙ z)) ∙ ap (λ (m : ℕ). nonzero m f) (sym (add-one k))

pub count_take : (k : ℕ) (f : ℕ → ℕ) {n b : ℕ} → n ≡ nonzero k f → b ≡ f k → (b ≡ 0 → ⊥) → n + 1 ≡ nonzero (k + 1) f
count_take k f {n} {b} e h z = ap (λ (m : ℕ). m + 1) e ∙ sym (count_one k f (λ (o : f k ≡ 0). z (h ∙ o))) ∙ ap (λ (m : ℕ). nonzero m f) (sym (add-one k))

-- ---- the search

pub found_all : (m a : List (List ℕ)) (n z r : ℕ) → n ≡ 0 → Left a r → Found m a n z r
found_all m a n z r e l = record {
  given = l.given;
  enough = λ q. omega (arith, nonzero_most z (sixteen m r));
  none = λ q w o k. absurd (o (sym k ∙ l.none q w));
}

pub found_few : (m a : List (List ℕ)) (n z : ℕ) → z < n → Found m a n z 0
found_few m a n z l = record { given = (0, sym (mix_by_zero a)); enough = λ q. absurd (q refl); none = λ q w o k. omega arith }

-- one byte more: it is asked to be zero, or not
module _ (m a b : List (List ℕ)) (y : List ℕ) (n z r : ℕ) (row : (w : ℕ) → dot y w ≡ sixteen m (mix_by a w) z) (less : Restricted a y b) where
  -- a word given by b is given by a, and its byte z is zero
  given_with : (q : ℕ) → (w : ℕ) × (q ≡ mix_by b w) → (w : ℕ) × (q ≡ mix_by a w) × (sixteen m q z ≡ 0)
  given_with q (w, e) =
      let v = less.within w in
      let s : q ≡ mix_by a v.0 = e ∙ v.1 in
      (v.0, s, ap (λ (x : ℕ). sixteen m x z) s ∙ sym (row v.0) ∙ v.2)

  pub found_with : Found m b n z r → (r ≡ 0 → ⊥) → Found m a (suc n) (suc z) r
  found_with f o =
      let g = given_with r f.given in
      record {
        given = (g.0, g.1);
        enough = λ q. omega (arith, f.enough q, count_zero z (sixteen m r) g.2);
        none = λ q. absurd (o q);
      }

  pub found_without : (q : ℕ) → Found m b n z q → q ≡ 0 → Found m a (suc n) z r → Found m a (suc n) (suc z) r
  found_without q f e s = record { given = s.given; enough = λ o. omega (arith, s.enough o, count_more z (sixteen m r)); none = none }
    where
      kept : (w : ℕ) → mix_by a w ≡ w → sixteen m w z ≡ 0 → mix_by b w ≡ w
      kept w k t = less.same w (row w ∙ ap (λ (x : ℕ). sixteen m x z) k ∙ t) ∙ k

      none : r ≡ 0 → (w : ℕ) → (w ≡ 0 → ⊥) → mix_by a w ≡ w → suc z < nonzero (suc z) (sixteen m w) + suc n
      none p w o k = elim (ℕ_discrete (sixteen m w z) 0) [
        | yes t ↦ omega (arith, f.none e w o (kept w k t), count_zero z (sixteen m w) t)
        | no t ↦ omega (arith, s.none p w o k, count_one z (sixteen m w) t)
      ]

-- the same as code has it, with z bytes left and n zeros still asked
module _ (m a b : List (List ℕ)) (y : List ℕ) (n z r : ℕ) (hn : 0 < n) (hz : 0 < z) (row : (w : ℕ) → dot y w ≡ sixteen m (mix_by a w) (z - 1)) (less : Restricted a y b) where
  counted : (k j : ℕ) → k ≡ suc (n - 1) → j ≡ suc (z - 1) → Found m a (suc (n - 1)) (suc (z - 1)) r → Found m a k j r
  counted k j p q f = subst (λ (k : ℕ). Found m a k j r) (sym p) (subst (λ (j : ℕ). Found m a (suc (n - 1)) j r) (sym q) f)

  pub found_first : Found m b (n - 1) (z - 1) r → (r ≡ 0 → ⊥) → Found m a n z r
  found_first f o = counted n z (omega arith) (omega arith) (found_with m a b y (n - 1) (z - 1) r row less f o)

  pub found_second : (q : ℕ) → Found m b (n - 1) (z - 1) q → q ≡ 0 → Found m a n (z - 1) r → Found m a n z r
  found_second q f e s =
      let p : n ≡ suc (n - 1) = omega arith in
      counted n z p (omega arith) (found_without m a b y (n - 1) (z - 1) r row less q f e (subst (λ (k : ℕ). Found m a k (z - 1) r) p s))

-- ---- the verdict

-- the sixteen bytes are those before and after mixing
all_sixteen : (g : List ℕ) (w : ℕ) → nonzero 16 (sixteen (matrix g) w) ≡ together g w
unfolding nonzero sixteen together active_bytes mix
all_sixteen g w = omega arith

-- every word is left at first
every : (w : ℕ) → w < 2 ^ 64 → mix_by (matrix neutral) w ≡ w
unfolding mix
every w l = mix_neutral w l

module _ (g : List ℕ) (r : ℕ) (small : r < 2 ^ 64) (f : Found (matrix g) (matrix neutral) 8 16 r) where
  short : (r ≡ 0 → ⊥) → FallsShort g r
  short o = (small, o, omega (arith, f.enough o, all_sixteen g r))

  good : r ≡ 0 → GoodEnough g
  good e w l o = omega (arith, f.none e w o (every w l), all_sixteen g w)

  pub judged : Judged g (record { yes = eqb r 0; word = r })
  judged = ((λ e. good (eqb-true r 0 e), only), eqb-true r 0, λ e. short (eqb-false r 0 e))
    where
      only : GoodEnough g → eqb r 0 ≡ true
      only h = elim (ℕ_discrete r 0) [
        | yes e ↦ eq-eqb r 0 e
        | no o ↦ let z : ⊥ = omega (arith, h r small o, (short o).2) in absurd z
      ]
