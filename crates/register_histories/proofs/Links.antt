-- Chains in any register, made by hand too, in plain terms: how their places are linked, and that all places of one have one end.
-- Assumes nothing.
use mathlib.Core.Path.{◌≡◌, sym, ap, ◌∙◌, subst}
use mathlib.Core.Bool.{Bool, true, false, true≢false}
use mathlib.Core.List.{List, [], ◌∷◌, ◌++◌}
use mathlib.Core.Logic.{⊎_elim}
use Prim.Native.Nat.{ℕ, zero, suc, ◌≤◌, ◌<◌}
use native.Mathlib.Decide.{ℕ_discrete}
use native.Mathlib.Omega.{arith}
use borrow.Author.Tests.{lt-ltb}
use lib.Dec.{ltb}
use lib.ListN.{get_or, length, drop}
use Rattle.forms.specs.Lists.{when, last, has}
use Rattle.forms.proofs.Booleans.{false_unless}
use Rattle.forms.proofs.Different.{has_cases, has_here, has_later, has_none}
use Rattle.forms.proofs.Search.{first_once, last_append}
use Rattle.registers.specs.declared.Entry.{Entry}
use Rattle.registers.specs.Registers.{blank, entry_at, number_at, replaces_at, replaces_number, next, replacements, chain, current}
use Rattle.registers.proofs.Entries.{replaces_iff}
use Rattle.registers.proofs.Chains.{chain_follows, next_first, Chain, ends, goes, chain_is, chain_once, within}
use Rattle.register_histories.specs.Chains.{NextOf}

module _ (es : List Entry) where
  -- ---- the next entry

  pub next_of : (x : ℕ) → x < length es → next es x < length es → NextOf es x (next es x)
  unfolding entry_at
  next_of x l m =
      let f = next_first es x l in
      let t = (replaces_iff (number_at es x) es (next es x)).0 (f.passes m) in
      record {
        later = f.from;
        within = m;
        some = t.0;
        replaces = t.1;
        first = λ k a b e. true≢false (sym ((replaces_iff (number_at es x) es k).1 (t.0, e)) ∙ f.none k a b);
      }

  -- where there is none, no later entry replaces this one
  pub next_none : (x : ℕ) → x < length es → length es ≤ next es x → (k : ℕ) → x < k → k < length es → (number_at es x ≡ 0 → ⊥) → replaces_at es k ≡ number_at es x → ⊥
  unfolding entry_at
  next_none x l m k a b d e = true≢false (sym ((replaces_iff (number_at es x) es k).1 (d, e)) ∙ (next_first es x l).none k a (omega arith))

  -- there is one only
  pub next_is : (x y : ℕ) → NextOf es x y → next es x ≡ y
  unfolding entry_at
  next_is x y n =
      let a = n.later in
      let b = n.within in
      first_once (replaces_number (number_at es x)) es blank (suc x) (next es x) y (next_first es x (omega arith))
      (record {
        from = a;
        within = omega arith;
        none = λ k c d. false_unless (replaces_number (number_at es x) (entry_at es k)) (λ t. n.first k c d ((replaces_iff (number_at es x) es k).0 t).1);
        passes = λ l. (replaces_iff (number_at es x) es y).1 (n.some, n.replaces);
      })

  pub chain_on : (x y : ℕ) → NextOf es x y → chain es x ≡ x ∷ chain es y
  chain_on x y n =
      let a = n.later in
      let b = n.within in
      let e = next_is x y n in
      chain_follows es x (omega arith)
      ∙ ap (λ (p : ℕ). x ∷ when (ltb p (length es)) (chain es p) []) e
      ∙ ap (λ (t : Bool). x ∷ when t (chain es y) []) (lt-ltb y (length es) b)

  -- ---- along a chain

  -- each place is the next of the one before
  along : {start : ℕ} {xs : List ℕ} → Chain es start xs → start < length es → (i : ℕ) → suc i < length xs → NextOf es (get_or xs i 0) (get_or xs (suc i) 0)
  along (ends m) l i h = let z : ⊥ = omega arith in absurd z
  along {start} (goes m (ends k)) l zero h = next_of start l m
  along {start} (goes m (goes k c)) l zero h = next_of start l m
  along (goes m c) l (suc i) h = along c m i (omega arith)

  pub chain_along : (start i : ℕ) → start < length es → suc i < length (chain es start) → NextOf es (get_or (chain es start) i 0) (get_or (chain es start) (suc i) 0)
  chain_along start i l h = along (chain_is es start l) l i h

  -- and no later entry replaces the last
  last_none : {start : ℕ} {xs : List ℕ} (d : ℕ) → Chain es start xs → start < length es → (k : ℕ) → last d xs < k → k < length es
      → (number_at es (last d xs) ≡ 0 → ⊥) → replaces_at es k ≡ number_at es (last d xs) → ⊥
  unfolding last
  last_none {start} d (ends m) l k a b s e = next_none start l m k a b s e
  last_none {start} d (goes m c) l k a b s e = last_none start c m k a b s e

  pub chain_ends : (start : ℕ) → start < length es → (k : ℕ) → current es start < k → k < length es → (number_at es (current es start) ≡ 0 → ⊥)
      → replaces_at es k ≡ number_at es (current es start) → ⊥
  unfolding current
  chain_ends start l = last_none start (chain_is es start l) l

  -- ---- links

  pub chain_here : (start : ℕ) → has start (chain es start) ≡ true
  unfolding chain
  chain_here start = has_here start (replacements es start)

  -- a place of a chain but its first was reached from one of its places
  pub record Link (places : List ℕ) (x : ℕ) : Type 0 where
    pub from : ℕ
    pub member : has from places ≡ true
    pub linked : NextOf es from x

  link : {start : ℕ} {xs : List ℕ} → Chain es start xs → start < length es → (x : ℕ) → has x xs ≡ true → (start ≡ x → ⊥) → Link xs x
  link {start} (ends m) l x h d = absurd (⊎_elim d (has_none x) (has_cases x start [] h))
  link {start} (goes {xs = ys} m c) l x h d =
      ⊎_elim (λ (e : start ≡ x). absurd (d e)) (λ (t : has x ys ≡ true). either (ℕ_discrete (next es start) x) (link c m x t)) (has_cases x start ys h)
    where
      either : Dec (next es start ≡ x) → ((next es start ≡ x → ⊥) → Link ys x) → Link (start ∷ ys) x
      either (yes e) f = record { from = start; member = has_here start ys; linked = subst (NextOf es start) e (next_of start l m) }
      either (no n) f = let r = f n in record { from = r.from; member = has_later r.from start ys r.member; linked = r.linked }

  pub chain_link : (start x : ℕ) → start < length es → has x (chain es start) ≡ true → (start ≡ x → ⊥) → Link (chain es start) x
  chain_link start x l h d = link (chain_is es start l) l x h d

  -- ---- the rest of a chain

  -- from any of its places on, a chain is that place's
  pub record Rest (places : List ℕ) (x : ℕ) : Type 0 where
    pub before : List ℕ
    pub split : places ≡ before ++ chain es x

  rest : {start : ℕ} {xs : List ℕ} → Chain es start xs → start < length es → (x : ℕ) → has x xs ≡ true → Rest xs x
  rest {start} (ends m) l x h = ⊎_elim here (λ (t : has x [] ≡ true). absurd (has_none x t)) (has_cases x start [] h)
    where
      here : start ≡ x → Rest (start ∷ []) x
      here e = record { before = []; split = chain_once es (ends m) l ∙ ap (chain es) e }
  rest {start} (goes {xs = ys} m c) l x h =
      ⊎_elim here (λ (t : has x ys ≡ true). there (rest c m x t)) (has_cases x start ys h)
    where
      here : start ≡ x → Rest (start ∷ ys) x
      here e = record { before = []; split = chain_once es (goes m c) l ∙ ap (chain es) e }

      there : Rest ys x → Rest (start ∷ ys) x
      there r = record { before = start ∷ r.before; split = ap (λ (zs : List ℕ). start ∷ zs) r.split }

  pub chain_rest : (start x : ℕ) → start < length es → has x (chain es start) ≡ true → Rest (chain es start) x
  chain_rest start x l h = rest (chain_is es start l) l x h

  -- so all places of a chain have one end
  pub chain_end : (start x : ℕ) → start < length es → has x (chain es start) ≡ true → current es x ≡ current es start
  unfolding current chain last
  chain_end start x l h =
      let r = chain_rest start x l h in
      sym (ap (last start) r.split ∙ last_append start r.before x (replacements es x))

  -- and all are the register's
  pub chain_within : (start x : ℕ) → start < length es → has x (chain es start) ≡ true → (start ≤ x) × (x < length es)
  chain_within start x l h = within es (chain_is es start l) l x h

  -- 'no chain closes': none comes back to where it started
  never_back : {start : ℕ} {xs : List ℕ} → Chain es start xs → start < length es → has start (drop 1 xs) ≡ true → ⊥
  never_back {start} (ends m) l t = has_none start t
  never_back {start} (goes m c) l t = let r = (within es c m start t).0 in let f = (next_first es start l).from in omega arith

  pub chain_open : (start : ℕ) → start < length es → has start (replacements es start) ≡ false
  unfolding chain
  chain_open start l = false_unless (has start (replacements es start)) (never_back (chain_is es start l) l)
