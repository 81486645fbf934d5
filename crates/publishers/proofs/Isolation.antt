-- What one publisher gets does not depend on the other: two stores that it can't tell apart answer it alike, call by call.
-- Assumes nothing.
use mathlib.Core.Path.{◌≡◌, refl, sym, ap, ap₂, subst, ◌∙◌}
use mathlib.Core.Bool.{Bool, true, false, not, false≢true, ◌&&◌}
use mathlib.Core.Logic.{◌⊎◌, inl, inr}
use mathlib.Core.List.{List, [], ◌∷◌}
use Prim.Native.Nat.{ℕ, zero, suc, ◌-◌, ◌<◌}
use native.Mathlib.Decide.{dec_lt}
use native.Mathlib.Omega.{arith}
use borrow.Author.Tests.{eqb-true, eqb-false}
use lib.Dec.{eqb}
use lib.ListN.{length, get_or, set, length-set, get_or-eq_default}
use lib.Seq.{get_or-set_same, get_or-set_other, set_out}
use Rattle.forms.specs.Lists.{when}
use Rattle.forms.specs.Refusals.{unless}
use Rattle.forms.proofs.Booleans.{false_unless}
use Rattle.field.specs.Substitution.{different}
use Rattle.labyrinth.specs.Cipher.{Parts}
use Rattle.rows.specs.Rows.{accepted}
use Rattle.sets.specs.declared.Set.{Set}
use Rattle.sets.specs.declared.Store.{Store}
use Rattle.sets.specs.Sets.{set_in, held, Held, in_store, load_refusal, load, with_set, take_refusal, take, with_taken}
use Rattle.sets.proofs.Sets.{loaded_alike, parts_alike, held_iff, inside_iff, load_iff}
use Rattle.publishers.specs.Calls.{Call, loads, takes, uses, number, named, used, answer, after, got, visible, forget}
use Rattle.publishers.specs.Isolation.{UseReads, TakeReads, Isolated, SameToOne, LoadAlone}
use Rattle.publishers.proofs.Stores.{load_is, take_is, refused_load, refused_take, loads_to, takes_to, same_sets}

-- ---- one call

pub use_reads : UseReads
unfolding answer
use_reads s t p q u e = ap₂ (λ (b : Bool) (m : Parts). used b m u) (loaded_alike s t (named u) e) (parts_alike s t (named u) e)

take_number : (s t : Store) (p i : ℕ) → set_in s i ≡ set_in t i → take_refusal s p i ≡ take_refusal t p i
unfolding take_refusal
take_number s t p i e = ap (λ (b : Bool). unless (in_store p i && b) 15 0) (loaded_alike s t i e)

pub take_reads : TakeReads
unfolding answer
take_reads s t p i e = ap number (take_number s t p i e)

-- ---- two stores that publisher p can't tell apart, in the second of which the other has taken no set but 0

record Alone (p : ℕ) (s t : Store) : Type 0 where
  sets : s.sets ≡ t.sets
  own : get_or s.taken p 0 ≡ get_or t.taken p 0
  none : (i : ℕ) → (i ≡ 0 → ⊥) → i < 4 → get_or t.taken (1 - p) 0 ≡ i → ⊥
  long : length s.taken ≡ length t.taken

-- the other's place is another
not_own : (p : ℕ) → 1 - p ≡ p → ⊥
not_own zero e = omega arith
not_own (suc zero) e = omega arith
not_own (suc (suc p)) e = omega arith

alone_at_first : (p : ℕ) (s : Store) → Alone p s (forget p s)
unfolding forget
alone_at_first p s = record {
  sets = refl;
  own = sym (get_or-set_other s.taken (1 - p) p 4 0 (λ e. not_own p (sym e)));
  none = λ i z l e. elim (dec_lt (1 - p) (length s.taken)) [
    | yes h ↦ let x : ⊥ = omega (arith, sym e ∙ get_or-set_same s.taken (1 - p) 4 0 h) in x
    | no h ↦ z (sym e ∙ ap (λ (m : List ℕ). get_or m (1 - p) 0) (set_out s.taken (1 - p) 4 (omega arith)) ∙ get_or-eq_default s.taken 0 (omega arith))
  ];
  long = sym (length-set s.taken (1 - p) 4);
}

-- a set is loaded in both
both_load : {p : ℕ} {s t : Store} (i : ℕ) (v : Set) → Alone p s t → Alone p (with_set s i v) (with_set t i v)
both_load i v a = record { sets = ap (λ (vs : List Set). set vs i v) a.sets; own = a.own; none = a.none; long = a.long }

-- p takes in both
own_takes : {p : ℕ} {s t : Store} (i : ℕ) → Alone p s t → Alone p (with_taken s p i) (with_taken t p i)
own_takes {p} {s} {t} i a = record {
  sets = a.sets;
  own = elim (dec_lt p (length s.taken)) [
    | yes h ↦ get_or-set_same s.taken p i 0 h ∙ sym (get_or-set_same t.taken p i 0 (omega (arith, a.long)))
    | no h ↦ ap (λ (m : List ℕ). get_or m p 0) (set_out s.taken p i (omega arith)) ∙ a.own ∙ sym (ap (λ (m : List ℕ). get_or m p 0) (set_out t.taken p i (omega (arith, a.long))))
  ];
  none = λ j z l e. a.none j z l (sym (get_or-set_other t.taken p (1 - p) i 0 (not_own p)) ∙ e);
  long = length-set s.taken p i ∙ a.long ∙ sym (length-set t.taken p i);
}

-- another takes in the first
other_takes : {p : ℕ} {s t : Store} (q i : ℕ) → (q ≡ p → ⊥) → Alone p s t → Alone p (with_taken s q i) t
other_takes {p} {s} q i n a = record {
  sets = a.sets;
  own = get_or-set_other s.taken q p i 0 (λ e. n (sym e)) ∙ a.own;
  none = a.none;
  long = length-set s.taken q i ∙ a.long;
}

-- what is held in the second is held in the first
held_too : (p : ℕ) → p < 2 → {s t : Store} → Alone p s t → (i : ℕ) → i < 4 → Held t i → Held s i
held_too p l a i m (inl z) = inl z
held_too zero l a i m (inr (inl e)) = inr (inl (a.own ∙ e))
held_too (suc zero) l a i m (inr (inr e)) = inr (inr (a.own ∙ e))
held_too zero l a zero m (inr (inr e)) = inl refl
held_too zero l a (suc i) m (inr (inr e)) = absurd (a.none (suc i) (λ z. omega arith) m e)
held_too (suc zero) l a zero m (inr (inl e)) = inl refl
held_too (suc zero) l a (suc i) m (inr (inl e)) = absurd (a.none (suc i) (λ z. omega arith) m e)
held_too (suc (suc p)) l a i m (inr h) = let z : ⊥ = omega arith in absurd z

-- so what is loaded in the first is loaded in the second
load_too : (p : ℕ) → p < 2 → {s t : Store} → Alone p s t → (q i : ℕ) (v g : List ℕ) → load_refusal s q i v g ≡ 0 → load_refusal t q i v g ≡ 0
load_too p l {s} {t} a q i v g e =
    let h = (load_iff s q i v g).0 e in
    (load_iff t q i v g).1 (h.0, h.1, h.2, λ k. h.3 (held_too p l a i h.0.1 k))

-- ---- over a history

-- after a load by anyone
after_load : (p : ℕ) → p < 2 → {s t : Store} → Alone p s t → (q i : ℕ) (v g : List ℕ) → load_refusal s q i v g ≡ 0 → Alone p (load s q i v g).store (load t q i v g).store
after_load p l {s} {t} a q i v g z =
    subst (λ (x : Store). Alone p x (load t q i v g).store) (sym (loads_to s q i v g z))
    (subst (Alone p (with_set s i (record { substitution = v; row = g }))) (sym (loads_to t q i v g (load_too p l a q i v g z))) (both_load i _ a))

after_refused : {p : ℕ} {s t : Store} → Alone p s t → (q i : ℕ) (v g : List ℕ) → (load_refusal s q i v g ≡ 0 → ⊥) → Alone p (load s q i v g).store t
after_refused {p} {s} {t} a q i v g h = subst (λ (x : Store). Alone p x t) (sym (refused_load s q i v g (λ e. h (sym (load_is s q i v g) ∙ e)))) a

-- after a take of its own
after_own : {p : ℕ} {s t : Store} → Alone p s t → (i : ℕ) → Alone p (take s p i).store (take t p i).store
after_own {p} {s} {t} a i = go (take_refusal s p i) refl
  where
    same : take_refusal t p i ≡ take_refusal s p i
    same = take_number t s p i (same_sets t s i (sym a.sets))

    go : (k : ℕ) → take_refusal s p i ≡ k → Alone p (take s p i).store (take t p i).store
    go zero e =
        subst (λ (x : Store). Alone p x (take t p i).store) (sym (takes_to s p i e))
        (subst (Alone p (with_taken s p i)) (sym (takes_to t p i (same ∙ e))) (own_takes i a))
    go (suc k) e =
        subst (λ (x : Store). Alone p x (take t p i).store) (sym (refused_take s p i (λ z. omega (arith, sym e ∙ sym (take_is s p i) ∙ z))))
        (subst (Alone p s) (sym (refused_take t p i (λ z. omega (arith, sym (same ∙ e) ∙ sym (take_is t p i) ∙ z)))) a)

-- after a take of another's
after_other : {p : ℕ} {s t : Store} → Alone p s t → (q i : ℕ) → (q ≡ p → ⊥) → Alone p (take s q i).store t
after_other {p} {s} {t} a q i n = go (take_refusal s q i) refl
  where
    go : (k : ℕ) → take_refusal s q i ≡ k → Alone p (take s q i).store t
    go zero e = subst (λ (x : Store). Alone p x t) (sym (takes_to s q i e)) (other_takes q i n a)
    go (suc k) e = subst (λ (x : Store). Alone p x t) (sym (refused_take s q i (λ z. omega (arith, sym e ∙ sym (take_is s q i) ∙ z)))) a

alike : (p : ℕ) → p < 2 → (s t : Store) → Alone p s t → (cs : List Call) → got p s cs ≡ got p t (visible p s cs)
unfolding got visible after
alike p l s t a [] = refl
alike p l s t a (loads q i v g ∷ cs) = go (eqb (load_refusal s q i v g) 0) refl (λ s t a. alike p l s t a cs)
  where
    s' : Store
    s' = (load s q i v g).store

    go : (b : Bool) → eqb (load_refusal s q i v g) 0 ≡ b → ((s t : Store) → Alone p s t → got p s cs ≡ got p t (visible p s cs))
        → got p s' cs ≡ got p t (when b (loads q i v g ∷ visible p s' cs) (visible p s' cs))
    go true e ih = ih s' (load t q i v g).store (after_load p l a q i v g (eqb-true (load_refusal s q i v g) 0 e))
    go false e ih = ih s' t (after_refused a q i v g (eqb-false (load_refusal s q i v g) 0 e))
alike p l s t a (takes q i ∷ cs) = go (eqb q p) refl (λ s t a. alike p l s t a cs)
  where
    s' : Store
    s' = (take s q i).store

    go : (b : Bool) → eqb q p ≡ b → ((s t : Store) → Alone p s t → got p s cs ≡ got p t (visible p s cs))
        → when b (answer s (takes q i) ∷ got p s' cs) (got p s' cs) ≡ got p t (when b (takes q i ∷ visible p s' cs) (visible p s' cs))
    go true e ih =
        rw e
        (ap₂ ◌∷◌ (take_reads s t q i (same_sets s t i a.sets))
        (ih s' (take t q i).store (subst (λ (q : ℕ). Alone p (take s q i).store (take t q i).store) (sym (eqb-true q p e)) (after_own a i))))
    go false e ih = ih s' t (after_other a q i (eqb-false q p e))
alike p l s t a (uses q u ∷ cs) = go (eqb q p) refl (alike p l s t a cs)
  where
    go : (b : Bool) → eqb q p ≡ b → got p s cs ≡ got p t (visible p s cs)
        → when b (answer s (uses q u) ∷ got p s cs) (got p s cs) ≡ got p t (when b (uses q u ∷ visible p s cs) (visible p s cs))
    go true e ih = rw e (ap₂ ◌∷◌ (use_reads s t q q u (same_sets s t (named u) a.sets)) ih)
    go false e ih = ih

pub isolated : Isolated
isolated p l s cs = alike p l s (forget p s) (alone_at_first p s) cs

pub same_to_one : SameToOne
same_to_one p l s t cs ds e f = isolated p l s cs ∙ ap₂ (got p) e f ∙ sym (isolated p l t ds)

-- ---- a load's number

pub load_alone : LoadAlone
unfolding load_refusal
load_alone p l s i v g =
    go (in_store p i) (different v) (accepted g) (held s i) (held (forget p s) i)
    (λ e f. false_unless (held (forget p s) i) (λ h. false≢true (sym f ∙ (held_iff s i).1 (held_too p l (alone_at_first p s) i ((inside_iff p i).0 e).1 ((held_iff (forget p s) i).0 h)))))
  where
    by : Bool → Bool → Bool → Bool → ℕ
    by a b c x = unless a 15 (unless b 14 (unless c 13 (unless (not x) 16 0)))

    go : (a b c x y : Bool) → (a ≡ true → x ≡ false → y ≡ false) → (by a b c x ≡ by a b c y) ⊎ ((by a b c x ≡ 16) × (by a b c y ≡ 0))
    go false b c x y k = inl refl
    go true false c x y k = inl refl
    go true true false x y k = inl refl
    go true true true true true k = inl refl
    go true true true true false k = inr (refl, refl)
    go true true true false true k = absurd (false≢true (sym (k refl refl)))
    go true true true false false k = inl refl
