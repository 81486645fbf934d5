-- 256 different bytes are a permutation: the first place of each byte undoes them both ways. What `different` says in plain terms, and that Table 1 is.
-- Assumes nothing.
use mathlib.Core.Path.{◌≡◌, refl, sym, ap, subst}
use mathlib.Core.List.{List, [], ◌∷◌}
use mathlib.Core.Bool.{Bool, true, false, false≢true, ◌&&◌, ◌||◌}
use mathlib.Core.Logic.{◌↔◌}
use Prim.Native.Nat.{ℕ, suc, ◌<◌, ◌≤◌}
use native.Mathlib.Decide.{dec_lt}
use native.Mathlib.Omega.{arith}
use borrow.Author.Tests.{eqb-true, eqb-false, eq-eqb, ne_eqb}
use lib.Dec.{eqb}
use lib.ListN.{length, get_or, get_or-eq_default}
use Rattle.forms.specs.Lists.{has, distinct, below}
use Rattle.forms.proofs.Booleans.{and_both}
use Rattle.forms.proofs.Different.{below_iff, distinct_iff, all_there}
use Rattle.field.specs.Substitution.{sub, sub_inv, different, Different}
use Rattle.field.specs.Published.{table1}
use Rattle.field.proofs.Substitution.{Undo}

pub different_split : (s : List ℕ) → different s ≡ true → (length s ≡ 256) × (below 256 s ≡ true) × (distinct s ≡ true)
unfolding different
different_split s e =
    let f = and_both (eqb (length s) 256) (below 256 s && distinct s) e in
    let g = and_both (below 256 s) (distinct s) f.1 in
    (eqb-true (length s) 256 f.0, g.0, g.1)

pub different_made : (s : List ℕ) → length s ≡ 256 → below 256 s ≡ true → distinct s ≡ true → different s ≡ true
unfolding different
different_made s h g d = rw (eq-eqb (length s) 256 h, g, d)

pub different_iff : (s : List ℕ) → (different s ≡ true) ↔ Different s
different_iff s = (
  λ e. let k = different_split s e in (
    k.0,
    λ i. elim (dec_lt i (length s)) [ yes l ↦ (below_iff 256 s).0 k.1 i l | no l ↦ past i (omega arith) ],
    λ i j l m. (distinct_iff s).0 k.2 i j (omega arith) (omega arith),
  ),
  λ h. different_made s h.0 ((below_iff 256 s).1 (λ j l. h.1 j)) ((distinct_iff s).1 (λ i j l m. h.2 i j (omega arith) (omega arith))),
)
  where
    past : (i : ℕ) → length s ≤ i → get_or s i 0 < 256
    past i l = rw (get_or-eq_default s 0 l) (omega arith)

-- ---- the first place of a byte

pub first_hit : (x y : ℕ) (s : List ℕ) → x ≡ y → sub_inv (x ∷ s) y ≡ 0
unfolding sub_inv
first_hit x y s e = ap (λ (b : Bool). elim b as (λ _. ℕ) [ true ↦ 0 | false ↦ suc (sub_inv s y) ]) (eq-eqb x y e)

pub first_miss : (x y : ℕ) (s : List ℕ) → (x ≡ y → ⊥) → sub_inv (x ∷ s) y ≡ suc (sub_inv s y)
unfolding sub_inv
first_miss x y s h = ap (λ (b : Bool). elim b as (λ _. ℕ) [ true ↦ 0 | false ↦ suc (sub_inv s y) ]) (ne_eqb x y h)

-- y stands at its first place
first_place : (y : ℕ) (s : List ℕ) → has y s ≡ true → (sub_inv s y < length s) × (get_or s (sub_inv s y) 0 ≡ y)
unfolding has
first_place y [] e = absurd (false≢true e)
first_place y (x ∷ s) e = go (eqb x y) refl e (first_place y s)
  where
    Here : ℕ → Type 0
    Here k = (k < suc (length s)) × (get_or (x ∷ s) k 0 ≡ y)

    go : (b : Bool) → eqb x y ≡ b → (b || has y s) ≡ true → (has y s ≡ true → (sub_inv s y < length s) × (get_or s (sub_inv s y) 0 ≡ y)) → Here (sub_inv (x ∷ s) y)
    go true p e ih = subst Here (sym (first_hit x y s (eqb-true x y p))) (omega arith, eqb-true x y p)
    go false p e ih = let r = ih e in subst Here (sym (first_miss x y s (eqb-false x y p))) (omega (arith, r.0), r.1)

-- so 256 different bytes are undone by their first places, both ways
pub different_undo : (s : List ℕ) → different s ≡ true → Undo (sub s) (sub_inv s)
unfolding sub
different_undo s d = record {
  there = λ x l. (below_iff 256 s).0 k.1 x (omega (arith, k.0));
  back = λ y l. omega (arith, k.0, (found y l).0);
  back_there = λ x l. let f = found (get_or s x 0) ((below_iff 256 s).0 k.1 x (omega (arith, k.0))) in (distinct_iff s).0 k.2 (sub_inv s (get_or s x 0)) x f.0 (omega (arith, k.0)) f.1;
  there_back = λ y l. (found y l).1;
}
  where
    k : (length s ≡ 256) × (below 256 s ≡ true) × (distinct s ≡ true)
    k = different_split s d

    found : (y : ℕ) → y < 256 → (sub_inv s y < length s) × (get_or s (sub_inv s y) 0 ≡ y)
    found y l = first_place y s (all_there 256 s k.2 k.1 k.0 y l)

-- Table 1 is 256 different bytes: one test over the table
pub table1_different : different table1 ≡ true
unfolding different distinct below has table1
table1_different = refl
