-- Chains in any register, made by hand too: each place is the next of the one before, they go upward, and all places of one have one end.
-- Assumes nothing.
use mathlib.Core.Path.{◌≡◌, refl, sym, ap, ◌∙◌, subst}
use mathlib.Core.Bool.{Bool, true, false, ◌||◌, false≢true}
use mathlib.Core.List.{List, [], ◌∷◌}
use mathlib.Core.Logic.{◌↔◌, ⊎_elim}
use Prim.Native.Nat.{ℕ, zero, suc, ◌+◌, ◌-◌, ◌≤◌, ◌<◌}
use native.Mathlib.Omega.{arith}
use borrow.Author.Tests.{eqb-true, lt-ltb, le-ltb, ltb-true, ltb-false}
use lib.Dec.{eqb, ltb}
use lib.ListN.{get_or, length, drop, drop_of_length-le}
use lib.Seq.{drop-cons}
use Rattle.forms.specs.Lists.{when, first_from, last, has}
use Rattle.forms.proofs.Booleans.{by_test, or_true}
use Rattle.forms.proofs.Search.{First, first_hit, first_miss, first_end, first_is}
use Rattle.registers.specs.declared.Entry.{Entry}
use Rattle.registers.specs.declared.Register.{Register}
use Rattle.registers.specs.Registers.{blank, held, place, look_up_refusal, found, look_up, entry_at, number_at, replaces_number, next, follow, replacements, chain, current, followed, rule}

module _ (es : List Entry) where
  -- ---- the request's sentence

  -- the later entries, one at a time
  module _ (at : ℕ) (l : at < length es) (number : ℕ) where
    pub follow_hit : replaces_number number (entry_at es at) ≡ true → follow number at (drop at es) ≡ chain es at
    unfolding follow entry_at chain replacements
    follow_hit t = ap (follow number at) (drop-cons es at blank l) ∙ rw t

    pub follow_miss : replaces_number number (entry_at es at) ≡ false → follow number at (drop at es) ≡ follow number (suc at) (drop (suc at) es)
    unfolding follow entry_at
    follow_miss t = ap (follow number at) (drop-cons es at blank l) ∙ rw t

  pub follow_end : (number at : ℕ) → length es ≤ at → follow number at (drop at es) ≡ []
  unfolding follow
  follow_end number at l = ap (follow number at) (drop_of_length-le es l)

  -- the chain of the entry at a place, if the register has one there
  abbrev onward : ℕ → List ℕ
  onward p = when (ltb p (length es)) (chain es p) []

  follow_first : (number at left : ℕ) → at + left ≡ length es → follow number at (drop at es) ≡ onward (first_from (replaces_number number) at (drop at es))
  unfolding entry_at
  follow_first number at zero e =
      follow_end number at (omega arith)
      ∙ sym (ap onward (first_end (replaces_number number) es at (omega arith)) ∙ ap (λ (b : Bool). when b (chain es at) []) (le-ltb at (length es) (omega arith)))
  follow_first number at (suc left) e = by_test (replaces_number number (entry_at es at)) hit (miss (follow_first number (suc at) left (omega arith)))
    where
      l : at < length es
      l = omega arith

      hit : replaces_number number (entry_at es at) ≡ true → follow number at (drop at es) ≡ onward (first_from (replaces_number number) at (drop at es))
      hit t =
          follow_hit at l number t
          ∙ sym (ap onward (first_hit (replaces_number number) es blank at l t) ∙ ap (λ (b : Bool). when b (chain es at) []) (lt-ltb at (length es) l))

      miss : follow number (suc at) (drop (suc at) es) ≡ onward (first_from (replaces_number number) (suc at) (drop (suc at) es))
          → replaces_number number (entry_at es at) ≡ false → follow number at (drop at es) ≡ onward (first_from (replaces_number number) at (drop at es))
      miss h t = follow_miss at l number t ∙ h ∙ sym (ap onward (first_miss (replaces_number number) es blank at l t))

  goes_on : (start : ℕ) → start < length es → replacements es start ≡ onward (next es start)
  unfolding replacements next
  goes_on start l = follow_first (number_at es start) (suc start) (length es - suc start) (omega arith)

  -- 'then each time the first later entry that replaces the one reached': a chain goes on at the next place, and ends where there is none
  pub chain_follows : (start : ℕ) → start < length es → chain es start ≡ start ∷ when (ltb (next es start) (length es)) (chain es (next es start)) []
  unfolding chain
  chain_follows start l = ap (λ (xs : List ℕ). start ∷ xs) (goes_on start l)

  -- what the next place is
  pub next_first : (start : ℕ) → start < length es → First (replaces_number (number_at es start)) es blank (suc start) (next es start)
  unfolding next
  next_first start l = first_is (replaces_number (number_at es start)) es blank (suc start) (omega arith)

  -- ---- a chain, place by place

  pub data Chain : ℕ → List ℕ → Type 0 where
    ends : {x : ℕ} → length es ≤ next es x → Chain x (x ∷ [])
    goes : {x : ℕ} {xs : List ℕ} → next es x < length es → Chain (next es x) xs → Chain x (x ∷ xs)

  chain_to : (bound start : ℕ) → length es ≤ start + bound → start < length es → Chain start (chain es start)
  chain_to zero start e l = let z : ⊥ = omega arith in absurd z
  chain_to (suc bound) start e l =
      subst (Chain start) (sym (chain_follows start l))
      (either (ltb (next es start) (length es)) refl
      (λ m. let f = (next_first start l).from in chain_to bound (next es start) (omega arith) m))
    where
      either : (b : Bool) → ltb (next es start) (length es) ≡ b → (next es start < length es → Chain (next es start) (chain es (next es start)))
          → Chain start (start ∷ when b (chain es (next es start)) [])
      either true t c = let m = ltb-true (next es start) (length es) t in goes m (c m)
      either false t c = ends (ltb-false (next es start) (length es) t)

  pub chain_is : (start : ℕ) → start < length es → Chain start (chain es start)
  chain_is start l = chain_to (length es) start (omega arith) l

  -- that decides the places
  pub chain_once : {start : ℕ} {xs : List ℕ} → Chain start xs → start < length es → xs ≡ chain es start
  chain_once {start} (ends m) l =
      sym (chain_follows start l ∙ ap (λ (b : Bool). start ∷ when b (chain es (next es start)) []) (le-ltb (next es start) (length es) m))
  chain_once {start} (goes m c) l =
      ap (λ (xs : List ℕ). start ∷ xs) (chain_once c m)
      ∙ sym (chain_follows start l ∙ ap (λ (b : Bool). start ∷ when b (chain es (next es start)) []) (lt-ltb (next es start) (length es) m))

  -- ---- upward

  -- each place is above the one before, so every look-up ends
  upward : {start : ℕ} {xs : List ℕ} → Chain start xs → start < length es → (i : ℕ) → suc i < length xs → get_or xs i 0 < get_or xs (suc i) 0
  upward (ends m) l i h = let z : ⊥ = omega arith in absurd z
  upward {start} (goes m (ends k)) l zero h = (next_first start l).from
  upward {start} (goes m (goes k c)) l zero h = (next_first start l).from
  upward (goes m c) l (suc i) h = upward c m i (omega arith)

  pub chain_upward : (start : ℕ) → start < length es → (i : ℕ) → suc i < length (chain es start) → get_or (chain es start) i 0 < get_or (chain es start) (suc i) 0
  chain_upward start l = upward (chain_is start l) l

  -- all its places are the register's, and from the start on
  pub within : {start : ℕ} {xs : List ℕ} → Chain start xs → start < length es → (x : ℕ) → has x xs ≡ true → (start ≤ x) × (x < length es)
  unfolding has
  within {start} (ends m) l x h = let e = only h in (omega arith, omega arith)
    where
      only : (eqb start x || false) ≡ true → start ≡ x
      only t = ⊎_elim (eqb-true start x) (λ z. absurd (false≢true z)) (or_true (eqb start x) false t)
  within {start} (goes {xs = ys} m c) l x h =
      ⊎_elim (λ t. let e = eqb-true start x t in (omega arith, omega arith))
      (λ t. let r = within c m x t in let f = (next_first start l).from in (omega (arith, r.0), r.1)) (or_true (eqb start x) (has x ys) h)

  -- fewer replacements are followed than there are entries from the start on: 63 at most
  shorter : {start : ℕ} {xs : List ℕ} → Chain start xs → start < length es → start + length xs ≤ length es
  shorter (ends m) l = omega arith
  shorter {start} (goes m c) l = let r = shorter c m in let f = (next_first start l).from in omega arith

  pub followed_fewer : (start : ℕ) → start < length es → start + followed es start < length es
  unfolding followed chain
  followed_fewer start l = let r = shorter (chain_is start l) l in omega arith

  -- ---- the end

  pub last_within : {start : ℕ} {xs : List ℕ} (d : ℕ) → Chain start xs → start < length es → last d xs < length es
  unfolding last
  last_within d (ends m) l = l
  last_within {start} d (goes m c) l = last_within start c m

  pub current_within : (start : ℕ) → start < length es → current es start < length es
  unfolding current
  current_within start l = last_within start (chain_is start l) l

  -- where there is no next, the place is its own end, and none is followed
  pub step_none : (start : ℕ) → start < length es → length es ≤ next es start → (current es start ≡ start) × (followed es start ≡ 0)
  unfolding current followed last chain
  step_none start l m =
      let e = goes_on start l ∙ ap (λ (b : Bool). when b (chain es (next es start)) []) (le-ltb (next es start) (length es) m) in
      (ap (last start) e, ap length e)

-- ---- the rule

pub rule_one : (n : ℕ) → (rule n ≡ 1) ↔ (n ≡ 0 → ⊥)
unfolding rule
rule_one zero = (λ e z. omega arith, λ d. absurd (d refl))
rule_one (suc n) = (λ e z. omega arith, λ d. refl)

pub rule_zero : (n : ℕ) → (rule n ≡ 0) ↔ (n ≡ 0)
unfolding rule
rule_zero zero = (λ e. refl, λ e. refl)
rule_zero (suc n) = (λ e. let z : ⊥ = omega arith in absurd z, λ e. let z : ⊥ = omega arith in absurd z)

-- so a look-up's rule is 1 exactly when it followed some, whatever it answers
pub look_up_rule : (r : Register) (number : ℕ) → ((look_up r number).rule ≡ 1) ↔ ((look_up r number).followed ≡ 0 → ⊥)
unfolding look_up
look_up_rule r number = either (look_up_refusal (held r) number)
  where
    either : (n : ℕ) → ((found n (held r) (place number (held r))).rule ≡ 1) ↔ ((found n (held r) (place number (held r))).followed ≡ 0 → ⊥)
    either zero = rule_one (followed (held r) (place number (held r)))
    either (suc n) = (λ e z. let y : ⊥ = omega arith in absurd y, λ d. absurd (d refl))
