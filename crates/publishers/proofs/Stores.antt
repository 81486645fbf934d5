-- What loads and takes do to a store, and what a fresh one has.
-- Assumes nothing.
use mathlib.Core.Path.{◌≡◌, refl, sym, ap, ◌∙◌}
use mathlib.Core.Bool.{true, false, false≢true}
use mathlib.Core.Logic.{◌⊎◌, inl, inr, ⊎_elim}
use mathlib.Core.List.{List}
use Prim.Native.Nat.{ℕ, zero, suc}
use native.Mathlib.Omega.{arith}
use lib.ListN.{get_or, replicate}
use lib.Seq.{get_or-set_same, get_or-set_other}
use Rattle.forms.specs.Lists.{has, distinct, below}
use Rattle.forms.specs.Refusals.{Unless}
use Rattle.forms.proofs.Refusals.{unless_held}
use Rattle.field.specs.Substitution.{different, Different}
use Rattle.field.specs.Mixing.{row_sum}
use Rattle.field.proofs.Different.{different_iff}
use Rattle.sets.specs.declared.Set.{Set}
use Rattle.sets.specs.declared.Store.{Store}
use Rattle.sets.specs.Sets.{blank, nowhere, set_in, substitution_in, row_in, Loaded, Held, fresh_store, changed, load_refusal, load, with_set, take_refusal, take, with_taken}
use Rattle.sets.proofs.Sets.{set_in_zero, set_in_other, loaded_alike, loaded_iff, load_number, load_iff, take_iff}
use Rattle.publishers.specs.Calls.{after_all}
use Rattle.publishers.specs.Stores.{
  ZeroPublished,
  ZeroHeld,
  UnloadedWouldBeRefused,
  FreshLoaded,
  FreshTaken,
  LoadPuts,
  LoadLeaves,
  TakeMarks,
  TakeLeaves,
  BothMayTake,
  RefusedLoad,
  RefusedTake,
}

-- ---- what a change leaves, by its number

module _ (k : ℕ) (new old : Store) where
  pub changed_number : (changed k new old).number ≡ k
  changed_number = go k
    where
      go : (k : ℕ) → (changed k new old).number ≡ k
      go zero = refl
      go (suc k) = refl

  pub changed_zero : k ≡ 0 → (changed k new old).store ≡ new
  changed_zero e = ap (λ (k : ℕ). (changed k new old).store) e

  pub changed_not : (k ≡ 0 → ⊥) → (changed k new old).store ≡ old
  changed_not = go k
    where
      go : (k : ℕ) → (k ≡ 0 → ⊥) → (changed k new old).store ≡ old
      go zero h = absurd (h refl)
      go (suc k) h = refl

  -- what holds of both
  either_store : (P : Store → Type 0) → P new → P old → P (changed k new old).store
  either_store P a b = go k
    where
      go : (k : ℕ) → P (changed k new old).store
      go zero = a
      go (suc k) = b

pub load_is : (s : Store) (p i : ℕ) (v g : List ℕ) → (load s p i v g).number ≡ load_refusal s p i v g
unfolding load
load_is s p i v g = changed_number (load_refusal s p i v g) _ s

pub take_is : (s : Store) (p i : ℕ) → (take s p i).number ≡ take_refusal s p i
unfolding take
take_is s p i = changed_number (take_refusal s p i) _ s

-- a refused load or take changes nothing in the store
pub refused_load : RefusedLoad
unfolding load
refused_load s p i v g h = changed_not (load_refusal s p i v g) _ s (λ z. h (load_is s p i v g ∙ z))

pub refused_take : RefusedTake
unfolding take
refused_take s p i h = changed_not (take_refusal s p i) _ s (λ z. h (take_is s p i ∙ z))

-- an accepted one
pub loads_to : (s : Store) (p i : ℕ) (v g : List ℕ) → load_refusal s p i v g ≡ 0 → (load s p i v g).store ≡ with_set s i (record { substitution = v; row = g })
unfolding load
loads_to s p i v g e = changed_zero (load_refusal s p i v g) _ s e

pub takes_to : (s : Store) (p i : ℕ) → take_refusal s p i ≡ 0 → (take s p i).store ≡ with_taken s p i
unfolding take
takes_to s p i e = changed_zero (take_refusal s p i) _ s e

-- ---- sentence by sentence

-- the other sets stay, and all sets with a take: set i is read from its place alone
set_other : (s : Store) (i j : ℕ) (v : Set) → (j ≡ i → ⊥) → set_in (with_set s i v) j ≡ set_in s j
unfolding set_in
set_other s i j v n = rw (get_or-set_other s.sets i j v nowhere n)

pub load_leaves : LoadLeaves
unfolding load
load_leaves s p i j v g n = (
  either_store (load_refusal s p i v g) _ s (λ t. set_in t j ≡ set_in s j) (set_other s i j _ n) refl,
  either_store (load_refusal s p i v g) (with_set s i (record { substitution = v; row = g })) s (λ t. t.taken ≡ s.taken) refl refl,
)

pub load_puts : LoadPuts
load_puts s p i v g l e =
    let z = sym (load_is s p i v g) ∙ e in
    let h = (load_iff s p i v g).0 z in
    ap (λ (t : Store). set_in t i) (loads_to s p i v g z)
    ∙ set_in_other (with_set s i (record { substitution = v; row = g })) i (λ e. h.3 (inl e)) (omega (arith, h.0.1))
    ∙ get_or-set_same s.sets i (record { substitution = v; row = g }) nowhere (omega (arith, h.0.1))

pub take_sets : (s : Store) (p i : ℕ) → (take s p i).store.sets ≡ s.sets
unfolding take
take_sets s p i = either_store (take_refusal s p i) (with_taken s p i) s (λ t. t.sets ≡ s.sets) refl refl

pub take_leaves : TakeLeaves
unfolding take
take_leaves s p q i n = (
  take_sets s p i,
  either_store (take_refusal s p i) (with_taken s p i) s (λ t. get_or t.taken q 0 ≡ get_or s.taken q 0) (get_or-set_other s.taken p q i 0 n) refl,
)

pub take_marks : TakeMarks
take_marks s p i l e =
    let z = sym (take_is s p i) ∙ e in
    ap (λ (t : Store). get_or t.taken p 0) (takes_to s p i z) ∙ get_or-set_same s.taken p i 0 (omega (arith, ((take_iff s p i).0 z).0))

-- a set is what it is whoever has taken what
pub same_sets : (s t : Store) (i : ℕ) → s.sets ≡ t.sets → set_in s i ≡ set_in t i
unfolding set_in
same_sets s t i e = rw e

pub both_may_take : BothMayTake
both_may_take s p q i l e =
    let h = (take_iff s p i).0 (sym (take_is s p i) ∙ e) in
    let t = (take s p i).store in
    let m : Loaded t i = (loaded_iff t i).0 (loaded_alike t s i (same_sets t s i (take_sets s p i)) ∙ (loaded_iff s i).1 h.2) in
    (take_is s q i ∙ (take_iff s q i).1 (l, h.1, h.2), take_is t q i ∙ (take_iff t q i).1 (l, h.1, m))

pub zero_published : ZeroPublished
zero_published s cs = set_in_zero (after_all s cs) 0 refl

pub zero_held : ZeroHeld
zero_held s p v g e = ((load_iff s p 0 v g).0 (sym (load_is s p 0 v g) ∙ e)).3 (inl refl)

pub unloaded_would_be_refused : UnloadedWouldBeRefused
unloaded_would_be_refused s p i l m n =
    let v = substitution_in s i in
    let g = row_in s i in
    let number = load_is s p i v g in
    let plain = load_number s p i v g number in
    let rest = unless_held (l, m) plain in
    (λ h. bad (λ d f. h (inr (m, d, f))) rest, λ r h. good h r rest)
  where
    k : ℕ
    k = (load s p i (substitution_in s i) (row_in s i)).number

    Rest : Type 0
    Rest = Unless (Different (substitution_in s i)) (k ≡ 14) (Unless (row_sum (row_in s i) ≡ 0 → ⊥) (k ≡ 13) (Unless (Held s i → ⊥) (k ≡ 16) (k ≡ 0)))

    bad : (Different (substitution_in s i) → (row_sum (row_in s i) ≡ 0 → ⊥) → ⊥) → Rest → (k ≡ 14) ⊎ (k ≡ 13)
    bad h (inl r) = inl r.1
    bad h (inr (d, inl r)) = inr r.1
    bad h (inr (d, inr (f, r))) = absurd (h d f)

    last : {e : ℕ} → Unless (Held s i → ⊥) (k ≡ 16) (k ≡ 0) → k ≡ e → (e ≡ 16) ⊎ (e ≡ 0)
    last (inl r) e = inl (sym e ∙ r.1)
    last (inr r) e = inr (sym e ∙ r.1)

    good : Loaded s i → (k ≡ 14) ⊎ (k ≡ 13) → Rest → ⊥
    good (inl z) r u = n z
    good (inr h) r (inl u) = u.0 h.1
    good (inr h) r (inr (d, inl u)) = u.0 h.2
    good (inr h) (inl e) (inr (d, inr (f, u))) = ⊎_elim (λ x. omega (arith, x)) (λ x. omega (arith, x)) (last u e)
    good (inr h) (inr e) (inr (d, inr (f, u))) = ⊎_elim (λ x. omega (arith, x)) (λ x. omega (arith, x)) (last u e)

-- zeros are no 256 different bytes
zeros_not : different (replicate 256 0) ≡ false
unfolding different distinct below has
zeros_not = refl

pub fresh_loaded : FreshLoaded
unfolding substitution_in set_in fresh_store blank
fresh_loaded i = (only i, inl)
  where
    no : (v : List ℕ) → v ≡ replicate 256 0 → different v ≡ true → ⊥
    no v e d = false≢true (sym zeros_not ∙ ap different (sym e) ∙ d)

    only : (i : ℕ) → Loaded fresh_store i → i ≡ 0
    only i (inl z) = z
    only zero (inr h) = refl
    only (suc zero) (inr h) = absurd (no _ refl ((different_iff _).1 h.1))
    only (suc (suc zero)) (inr h) = absurd (no _ refl ((different_iff _).1 h.1))
    only (suc (suc (suc zero))) (inr h) = absurd (no _ refl ((different_iff _).1 h.1))
    only (suc (suc (suc (suc i)))) (inr h) = let z : ⊥ = omega (arith, h.0) in absurd z

pub fresh_taken : FreshTaken
unfolding fresh_store
fresh_taken zero i h l e = omega arith
fresh_taken (suc zero) i h l e = omega arith
fresh_taken (suc (suc p)) i h l e = omega arith
