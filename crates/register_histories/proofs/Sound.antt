-- What follows of the chains of a sound register; and that an accepted entry keeps it sound.
-- Assumes nothing.
use mathlib.Core.Path.{◌≡◌, refl, sym, ap, ◌∙◌, subst}
use mathlib.Core.Bool.{Bool, true, false}
use mathlib.Core.List.{List, [], ◌∷◌, ◌++◌}
use mathlib.Core.Logic.{◌⊎◌, ⊎_elim}
use Prim.Native.Nat.{ℕ, zero, suc, ◌+◌, ◌≤◌, ◌<◌}
use native.Mathlib.Decide.{ℕ_discrete}
use native.Mathlib.Nat.{eq-or-lt_of_le}
use native.Mathlib.Omega.{arith}
use lib.ListN.{length}
use Rattle.forms.specs.Lists.{has}
use Rattle.forms.proofs.Different.{has_later, has_behind}
use Rattle.forms.proofs.Search.{first_is, first_once}
use Rattle.registers.specs.declared.Entry.{Entry}
use Rattle.registers.specs.Registers.{blank, entry_at, number_at, replaces_at, has_number, place, chain, Present, Replaced}
use Rattle.registers.proofs.Entries.{has_iff}
use Rattle.register_histories.specs.Chains.{NextOf, Root, InChainFrom, ReplacesEarlier, Sound, ReplacedBy, at_once, and_then}
use Rattle.register_histories.proofs.Links.{chain_here, chain_link, chain_on, chain_rest}
use Rattle.register_histories.proofs.Extended.{long_more, old_number, old_replaces, new_number, new_replaces}

module _ (es : List Entry) (S : Sound es) where
  -- ---- chains from different roots

  -- a root is reached from none
  root_first : (p q x : ℕ) → Root es p → q < length es → x ≡ p → has x (chain es q) ≡ true → (q ≡ x → ⊥) → ⊥
  root_first p q x r l e h d =
      let k = (chain_link es q x l h d).linked in
      k.some (sym k.replaces ∙ ap (replaces_at es) e ∙ r.replaces_none)

  meet : (bound p q x : ℕ) → Root es p → Root es q → x < bound → has x (chain es p) ≡ true → has x (chain es q) ≡ true → p ≡ q
  meet zero p q x r s l g h = let z : ⊥ = omega arith in absurd z
  meet (suc bound) p q x r s l g h = either (ℕ_discrete p x) (ℕ_discrete q x) (λ y m a b. meet bound p q y r s m a b)
    where
      either : Dec (p ≡ x) → Dec (q ≡ x) → ((y : ℕ) → y < bound → has y (chain es p) ≡ true → has y (chain es q) ≡ true → p ≡ q) → p ≡ q
      either (yes e) (yes f) ih = e ∙ sym f
      either (yes e) (no d) ih = absurd (root_first p q x r s.within (sym e) h d)
      either (no d) (yes f) ih = absurd (root_first q p x s r.within (sym f) g d)
      either (no c) (no d) ih =
          let a = chain_link es p x r.within g c in
          let b = chain_link es q x s.within h d in
          let la = a.linked.later in
          let lb = b.linked.later in
          let w = a.linked.within in
          let same : b.from ≡ a.from = S.once b.from a.from (omega arith) (omega arith) (sym b.linked.replaces ∙ a.linked.replaces) in
          ih a.from (omega arith) a.member (subst (λ (y : ℕ). has y (chain es q) ≡ true) same b.member)

  -- chains from roots that have a place in common start at one root
  pub one_root : (p q x : ℕ) → Root es p → Root es q → has x (chain es p) ≡ true → has x (chain es q) ≡ true → p ≡ q
  one_root p q x r s = meet (suc x) p q x r s (omega arith)

  -- ---- no chain closes, also by number alone

  -- the places of the two numbers
  record Ordered (a b : ℕ) : Type 0 where
    first : ℕ
    second : ℕ
    order : first < second
    within : second < length es
    is_first : number_at es first ≡ a
    is_second : number_at es second ≡ b

  ordered : {a b : ℕ} → ReplacedBy es a b → Ordered a b
  ordered (at_once j l d) = let h = S.earlier j l d in record { first = h.at; second = j; order = h.earlier; within = l; is_first = h.named; is_second = refl }
  ordered (and_then u v) =
      let x = ordered u in
      let y = ordered v in
      let wx = x.within in
      let ox = x.order in
      let oy = y.order in
      let wy = y.within in
      let same : x.second ≡ y.first = S.once x.second y.first wx (omega arith) (x.is_second ∙ sym y.is_first) in
      record { first = x.first; second = y.second; order = omega arith; within = wy; is_first = x.is_first; is_second = y.is_second }

  pub never_closes : (a : ℕ) → ReplacedBy es a a → ⊥
  never_closes a r =
      let h = ordered r in
      let o = h.order in
      let w = h.within in
      let same : h.first ≡ h.second = S.once h.first h.second (omega arith) w (h.is_first ∙ sym h.is_second) in
      omega arith

  -- ---- each entry is in a chain from a root

  -- an entry that replaces another is its next
  replacing : (i x : ℕ) → i < x → x < length es → number_at es i ≡ replaces_at es x → (replaces_at es x ≡ 0 → ⊥) → NextOf es i x
  replacing i x l m e d =
      record {
        later = l;
        within = m;
        some = λ z. d (sym e ∙ z);
        replaces = sym e;
        first = λ k a b z. let same : k ≡ x = S.replaced_once k x (omega arith) m (λ y. d (sym e ∙ sym z ∙ y)) (z ∙ e) in omega arith;
      }

  pub record Rooted (x : ℕ) : Type 0 where
    pub root : ℕ
    pub is : InChainFrom es x root

  rooted_below : (bound x : ℕ) → x < bound → x < length es → Rooted x
  rooted_below zero x b l = let z : ⊥ = omega arith in absurd z
  rooted_below (suc bound) x b l = either (ℕ_discrete (replaces_at es x) 0) (λ i m n. rooted_below bound i m n)
    where
      extend : (i : ℕ) → NextOf es i x → Rooted i → Rooted x
      extend i n r =
          let c = chain_rest es r.root i r.is.starts.within r.is.member in
          let split = c.split ∙ ap (λ (zs : List ℕ). c.before ++ zs) (chain_on es i x n) in
          record {
            root = r.root;
            is =
                record {
                  starts = r.is.starts;
                  member = subst (λ (zs : List ℕ). has x zs ≡ true) (sym split) (has_behind x c.before (i ∷ chain es x) (has_later x i (chain es x) (chain_here es x)));
                };
          }

      either : Dec (replaces_at es x ≡ 0) → ((i : ℕ) → i < bound → i < length es → Rooted i) → Rooted x
      either (yes e) f = record { root = x; is = record { starts = record { within = l; replaces_none = e }; member = chain_here es x } }
      either (no d) f =
          let h = S.earlier x l d in
          let o = h.earlier in
          extend h.at (replacing h.at x o l h.named d) (f h.at (omega arith) (omega arith))

  pub rooted : (x : ℕ) → x < length es → Rooted x
  rooted x = rooted_below (suc x) x (omega arith)

  -- ---- an entry is found by its number

  pub place_own : (x : ℕ) → x < length es → place (number_at es x) es ≡ x
  unfolding place entry_at
  place_own x l =
      first_once (has_number (number_at es x)) es blank 0 (place (number_at es x) es) x (first_is (has_number (number_at es x)) es blank 0 (omega arith))
      (record {
        from = omega arith;
        within = omega arith;
        none = λ k a b. other k b (has_number (number_at es x) (entry_at es k)) refl;
        passes = λ m. (has_iff (number_at es x) es x).1 (S.some x l, refl);
      })
    where
      other : (k : ℕ) → k < x → (t : Bool) → has_number (number_at es x) (entry_at es k) ≡ t → has_number (number_at es x) (entry_at es k) ≡ false
      other k b false t = t
      other k b true t =
          let same : k ≡ x = S.once k x (omega arith) l ((has_iff (number_at es x) es k).0 t).1 in
          let z : ⊥ = omega arith in absurd z

-- ---- kept

pub sound_none : Sound []
sound_none =
    record {
      some = λ i l. let z : ⊥ = omega arith in absurd z;
      once = λ i j l m. let z : ⊥ = omega arith in absurd z;
      earlier = λ j l. let z : ⊥ = omega arith in absurd z;
      replaced_once = λ i j l m. let z : ⊥ = omega arith in absurd z;
    }

-- what is asked of an entry that is added
abbrev pub Taken : List Entry → Entry → Type 0
Taken es e =
    ((e.number ≡ 0 → ⊥) × (Present e.number es → ⊥)) × ((e.replaces ≡ 0) ⊎ (Present e.replaces es × (Replaced e.replaces es → ⊥))) × (length es < 64)

module _ (es : List Entry) (e : Entry) (S : Sound es) (A : Taken es e) where
  -- a place is an old one, or the new one
  old_or_new : (i : ℕ) → i < length (es ++ (e ∷ [])) → (i ≡ length es) ⊎ (i < length es)
  old_or_new i l = eq-or-lt_of_le (let m : i ≤ length es = omega (arith, long_more es e) in m)

  -- what the new entry replaces, if anything
  named : (e.replaces ≡ 0 → ⊥) → Present e.replaces es × (Replaced e.replaces es → ⊥)
  named d = ⊎_elim (λ (z : e.replaces ≡ 0). absurd (d z)) (λ (h : Present e.replaces es × (Replaced e.replaces es → ⊥)). h) A.1

  module _ (i : ℕ) where
    new_number_at : i ≡ length es → number_at (es ++ (e ∷ [])) i ≡ e.number
    new_number_at p = ap (number_at (es ++ (e ∷ []))) p ∙ new_number es e

    new_replaces_at : i ≡ length es → replaces_at (es ++ (e ∷ [])) i ≡ e.replaces
    new_replaces_at p = ap (replaces_at (es ++ (e ∷ []))) p ∙ new_replaces es e

  pub sound_more : Sound (es ++ (e ∷ []))
  sound_more = record { some = some'; once = once'; earlier = earlier'; replaced_once = replaced_once' }
    where
      some' : (i : ℕ) → i < length (es ++ (e ∷ [])) → number_at (es ++ (e ∷ [])) i ≡ 0 → ⊥
      some' i l z =
          ⊎_elim (λ (p : i ≡ length es). A.0.0 (sym (new_number_at i p) ∙ z)) (λ (m : i < length es). S.some i m (sym (old_number es e i m) ∙ z)) (old_or_new i l)

      -- the new number is no old entry's
      only : (i j : ℕ) → i ≡ length es → j < length es → number_at (es ++ (e ∷ [])) j ≡ number_at (es ++ (e ∷ [])) i → ⊥
      only i j p m z = A.0.1 (record { at = j; within = m; named = sym (old_number es e j m) ∙ z ∙ new_number_at i p })

      once' : (i j : ℕ) → i < length (es ++ (e ∷ [])) → j < length (es ++ (e ∷ [])) → number_at (es ++ (e ∷ [])) i ≡ number_at (es ++ (e ∷ [])) j → i ≡ j
      once' i j l m z =
          ⊎_elim
          (λ (p : i ≡ length es). ⊎_elim (λ (q : j ≡ length es). p ∙ sym q) (λ (q : j < length es). absurd (only i j p q (sym z))) (old_or_new j m))
          (λ (p : i < length es). ⊎_elim (λ (q : j ≡ length es). absurd (only j i q p z))
          (λ (q : j < length es). S.once i j p q (sym (old_number es e i p) ∙ z ∙ old_number es e j q)) (old_or_new j m))
          (old_or_new i l)

      earlier_new : (j : ℕ) → j ≡ length es → (replaces_at (es ++ (e ∷ [])) j ≡ 0 → ⊥) → ReplacesEarlier (es ++ (e ∷ [])) j
      earlier_new j p d =
          let h = (named (λ z. d (new_replaces_at j p ∙ z))).0 in
          let l = h.within in
          record { at = h.at; earlier = omega arith; named = old_number es e h.at l ∙ h.named ∙ sym (new_replaces_at j p) }

      earlier_old : (j : ℕ) → j < length es → ReplacesEarlier es j → ReplacesEarlier (es ++ (e ∷ [])) j
      earlier_old j l h =
          let o = h.earlier in
          record { at = h.at; earlier = o; named = old_number es e h.at (omega arith) ∙ h.named ∙ sym (old_replaces es e j l) }

      earlier' : (j : ℕ) → j < length (es ++ (e ∷ [])) → (replaces_at (es ++ (e ∷ [])) j ≡ 0 → ⊥) → ReplacesEarlier (es ++ (e ∷ [])) j
      earlier' j l d =
          ⊎_elim (λ (p : j ≡ length es). earlier_new j p d) (λ (m : j < length es). earlier_old j m (S.earlier j m (λ z. d (old_replaces es e j m ∙ z)))) (old_or_new j l)

      -- the number that the new entry replaces is named by no old one
      alone : (i j : ℕ) → i ≡ length es → j < length es → (replaces_at (es ++ (e ∷ [])) i ≡ 0 → ⊥) → replaces_at (es ++ (e ∷ [])) j ≡ replaces_at (es ++ (e ∷ [])) i → ⊥
      alone i j p m d z =
          (named (λ y. d (new_replaces_at i p ∙ y))).1 (record { at = j; within = m; named = sym (old_replaces es e j m) ∙ z ∙ new_replaces_at i p })

      replaced_once' : (i j : ℕ) → i < length (es ++ (e ∷ [])) → j < length (es ++ (e ∷ [])) → (replaces_at (es ++ (e ∷ [])) i ≡ 0 → ⊥)
          → replaces_at (es ++ (e ∷ [])) i ≡ replaces_at (es ++ (e ∷ [])) j → i ≡ j
      replaced_once' i j l m d z =
          ⊎_elim
          (λ (p : i ≡ length es). ⊎_elim (λ (q : j ≡ length es). p ∙ sym q) (λ (q : j < length es). absurd (alone i j p q d (sym z))) (old_or_new j m))
          (λ (p : i < length es). ⊎_elim (λ (q : j ≡ length es). absurd (alone j i q p (λ y. d (z ∙ y)) z))
          (λ (q : j < length es). S.replaced_once i j p q (λ y. d (old_replaces es e i p ∙ y)) (sym (old_replaces es e i p) ∙ z ∙ old_replaces es e j q)) (old_or_new j m))
          (old_or_new i l)
