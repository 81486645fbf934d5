-- How the code tells 256 different bytes: from the last on it marks those that it has seen.
-- Assumes nothing.
use mathlib.Core.Path.{◌≡◌, refl, sym, ap, ap₂, ◌∙◌}
use mathlib.Core.List.{List, [], ◌∷◌}
use mathlib.Core.Bool.{Bool, true, false, not, false≢true, ◌||◌}
use Prim.Native.Nat.{ℕ, zero, suc, ◌+◌, ◌<◌, ◌≤◌}
use native.Mathlib.Numerals.{add-one}
use native.Mathlib.Omega.{arith}
use borrow.Author.Tests.{eqb-true, eqb-false, ne_eqb}
use lib.Dec.{eqb}
use lib.ListN.{length, drop, get_or, set, replicate, length-set, length-replicate, get_or-replicate, drop_of_length-le}
use lib.Seq.{drop-cons, get_or-set_same, get_or-set_other}
use Rattle.forms.specs.Lists.{has, distinct}
use Rattle.forms.proofs.Booleans.{and_both, false_unless}
use Rattle.forms.proofs.Different.{below_iff}
use Rattle.field.specs.Substitution.{different}
use Rattle.field.proofs.Different.{different_split, different_made}

-- which bytes stand in s, as marks
unfoldable pub marks : List ℕ → List Bool
marks [] = replicate 256 false
marks (x ∷ s) = set (marks s) x true

marks_length : (s : List ℕ) → length (marks s) ≡ 256
unfolding marks
marks_length [] = length-replicate 256 false
marks_length (x ∷ s) = length-set (marks s) x true ∙ marks_length s

marks_has : (s : List ℕ) (y : ℕ) → y < 256 → get_or (marks s) y false ≡ has y s
unfolding marks has
marks_has [] y h = get_or-replicate 256 y false false h
marks_has (x ∷ s) y h = go (marks_has s y h) (eqb x y) refl
  where
    go : get_or (marks s) y false ≡ has y s → (b : Bool) → eqb x y ≡ b → get_or (set (marks s) x true) y false ≡ (eqb x y || has y s)
    go ih true e = rw (e, eqb-true x y e, get_or-set_same (marks s) y true false (omega (arith, marks_length s)))
    go ih false e = rw (e, get_or-set_other (marks s) x y true false (λ z. eqb-false x y e (sym z))) ih

distinct_drop : (s : List ℕ) (i : ℕ) → distinct s ≡ true → distinct (drop i s) ≡ true
unfolding distinct
distinct_drop s zero e = e
distinct_drop [] (suc i) e = e
distinct_drop (x ∷ s) (suc i) e = distinct_drop s i (and_both (not (has x s)) (distinct s) e).1

-- what has been seen from place i on: no byte twice
pub record Seen (s : List ℕ) (i : ℕ) (seen : List Bool) : Type 0 where
  pub marked : seen ≡ marks (drop i s)
  pub once : distinct (drop i s) ≡ true

pub seen_none : (s : List ℕ) (n : ℕ) → length s ≤ n → Seen s n (replicate 256 false)
unfolding marks distinct
seen_none s n h = record { marked = sym (ap marks (drop_of_length-le s h)); once = ap distinct (drop_of_length-le s h) }

-- one place further to the front, where x stands
module _ (s : List ℕ) (i j : ℕ) {x : ℕ} {seen : List Bool} (p : i ≡ j + 1) (h : j < length s) (e : x ≡ get_or s j 0) (l : x < 256) (a : Seen s i seen) where
  front : drop j s ≡ x ∷ drop i s
  front = drop-cons s j 0 h ∙ ap₂ (λ (v k : ℕ). v ∷ drop k s) (sym e) (sym (p ∙ add-one j))

  is_seen : {b : Bool} → get_or seen x false ≡ b → has x (drop i s) ≡ b
  is_seen f = sym (marks_has (drop i s) x l) ∙ ap (λ (m : List Bool). get_or m x false) (sym a.marked) ∙ f

  pub seen_more : get_or seen x false ≡ false → Seen s j (set seen x true)
  unfolding marks distinct
  seen_more f = record {
    marked = ap (λ (m : List Bool). set m x true) a.marked ∙ sym (ap marks front);
    once = ap distinct front ∙ rw (is_seen f) a.once;
  }

  pub seen_again : get_or seen x false ≡ true → different s ≡ false
  unfolding distinct
  seen_again f =
      let again : distinct (drop j s) ≡ false = ap distinct front ∙ rw (is_seen f) in
      false_unless (different s) (λ t. false≢true (sym again ∙ distinct_drop s j (different_split s t).2))

pub seen_all : (s : List ℕ) (i : ℕ) {seen : List Bool} → length s ≡ 256 → ((k : ℕ) → get_or s k 0 < 256) → i ≡ 0 → Seen s i seen → different s ≡ true
seen_all s i h g e a = different_made s h ((below_iff 256 s).1 (λ k l. g k)) (rw e at a.once)

pub short : (s : List ℕ) → (length s ≡ 256 → ⊥) → different s ≡ false
unfolding different
short s h = rw (ne_eqb (length s) 256 h)
