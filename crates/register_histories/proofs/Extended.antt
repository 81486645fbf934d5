-- One entry more: no chain changes but the one that it extends.
-- Assumes nothing.
use mathlib.Core.Path.{◌≡◌, refl, sym, ap, ◌∙◌, subst}
use mathlib.Core.Bool.{Bool, true, false, true≢false}
use mathlib.Core.List.{List, [], ◌∷◌, ◌++◌}
use mathlib.Core.Logic.{⊎_elim}
use Prim.Native.Nat.{ℕ, suc, ◌+◌, ◌≤◌, ◌<◌, min}
use native.Mathlib.Nat.{eq-or-lt_of_le}
use native.Mathlib.Omega.{arith}
use borrow.Author.Tests.{ltb-true, ltb-false}
use lib.Dec.{ltb}
use lib.ListN.{set, take, length, length-append, get_or-append}
use lib.Seq.{get_or-append_seam, take-suc-set}
use Rattle.forms.specs.Lists.{when, last}
use Rattle.forms.proofs.Booleans.{by_test}
use Rattle.registers.specs.declared.Entry.{Entry}
use Rattle.registers.specs.declared.Register.{Register}
use Rattle.registers.specs.Registers.{blank, held, entry_at, number_at, replaces_at, replaces_number, next, chain, current, extended}
use Rattle.registers.proofs.Entries.{matches_iff}
use Rattle.registers.proofs.Chains.{next_first, Chain, ends, goes, chain_is, chain_once}
use Rattle.register_histories.proofs.Links.{next_of, next_none, next_is}

-- the entries then: those before, and the new one behind them
pub held_extended : (r : Register) (e : Entry) → length r.entries ≡ 64 → r.count < 64 → held (extended r e) ≡ held r ++ (e ∷ [])
unfolding held extended
held_extended r e l c =
    let a : min (r.count + 1) 64 ≡ suc r.count = omega arith in
    let b : r.count ≡ min r.count 64 = omega arith in
    ap (λ (n : ℕ). take n (set r.entries r.count e)) a ∙ take-suc-set r.entries r.count e (omega arith)
    ∙ ap (λ (n : ℕ). take n r.entries ++ (e ∷ [])) b

module _ (es : List Entry) (e : Entry) where
  abbrev more : List Entry
  more = es ++ (e ∷ [])

  pub long_more : length more ≡ suc (length es)
  long_more = omega (arith, length-append es (e ∷ []))

  pub old_entry : (i : ℕ) → i < length es → entry_at more i ≡ entry_at es i
  unfolding entry_at
  old_entry i l = get_or-append es (e ∷ []) blank i l

  pub new_entry : entry_at more (length es) ≡ e
  unfolding entry_at
  new_entry = get_or-append_seam es e [] blank

  pub old_number : (i : ℕ) → i < length es → number_at more i ≡ number_at es i
  old_number i l = ap (λ (x : Entry). x.number) (old_entry i l)

  pub old_replaces : (i : ℕ) → i < length es → replaces_at more i ≡ replaces_at es i
  old_replaces i l = ap (λ (x : Entry). x.replaces) (old_entry i l)

  pub new_number : number_at more (length es) ≡ e.number
  new_number = ap (λ (x : Entry). x.number) new_entry

  pub new_replaces : replaces_at more (length es) ≡ e.replaces
  new_replaces = ap (λ (x : Entry). x.replaces) new_entry

  -- ---- the next entry

  next_old : (x : ℕ) → x < length es → next es x < length es → next more x ≡ next es x
  next_old x l m =
      let n = next_of es x l m in
      next_is more x (next es x)
      (record {
        later = n.later;
        within = omega (arith, long_more);
        some = λ z. n.some (sym (old_number x l) ∙ z);
        replaces = old_replaces (next es x) m ∙ n.replaces ∙ sym (old_number x l);
        first = λ k a b z. n.first k a b (sym (old_replaces k (omega arith)) ∙ z ∙ old_number x l);
      })

  next_new : (x : ℕ) → x < length es → length es ≤ next es x → replaces_number (number_at es x) e ≡ true → next more x ≡ length es
  unfolding replaces_number
  next_new x l m t =
      let h = (matches_iff (number_at es x) e.replaces).0 t in
      next_is more x (length es)
      (record {
        later = l;
        within = omega (arith, long_more);
        some = λ z. h.0 (sym (old_number x l) ∙ z);
        replaces = new_replaces ∙ h.1 ∙ sym (old_number x l);
        first = λ k a b z. next_none es x l m k a b h.0 (sym (old_replaces k b) ∙ z ∙ old_number x l);
      })

  next_still : (x : ℕ) → x < length es → length es ≤ next es x → replaces_number (number_at es x) e ≡ false → length more ≤ next more x
  unfolding replaces_number
  next_still x l m t = by_test (ltb (next more x) (length more)) (λ b. absurd (none (ltb-true (next more x) (length more) b))) (λ b. ltb-false (next more x) (length more) b)
    where
      none : next more x < length more → ⊥
      none b =
          let n = next_of more x (omega (arith, long_more)) b in
          let named = n.replaces ∙ old_number x l in
          let some : number_at es x ≡ 0 → ⊥ = λ z. n.some (old_number x l ∙ z) in
          ⊎_elim
          (λ (p : next more x ≡ length es).
          true≢false (sym ((matches_iff (number_at es x) e.replaces).1 (some, sym (ap (replaces_at more) p ∙ new_replaces) ∙ named)) ∙ t))
          (λ (p : next more x < length es). next_none es x l m (next more x) n.later p some (sym (old_replaces (next more x) p) ∙ named))
          (eq-or-lt_of_le (let q : next more x ≤ length es = omega (arith, long_more) in q))

  -- the new entry has no next
  next_end : length more ≤ next more (length es)
  next_end = let f = (next_first more (length es) (omega (arith, long_more))).from in omega (arith, long_more)

  -- ---- chains

  -- the place of the new entry, if it replaces the entry at a place
  unfoldable pub extension : ℕ → List ℕ
  extension end = when (replaces_number (number_at es end) e) (length es ∷ []) []

  chain_grown : (d : ℕ) {x : ℕ} {xs : List ℕ} → Chain es x xs → x < length es → Chain more x (xs ++ extension (last d xs))
  unfolding last extension
  chain_grown d {x} (ends m) l = either (replaces_number (number_at es x) e) refl
    where
      either : (b : Bool) → replaces_number (number_at es x) e ≡ b → Chain more x (x ∷ when b (length es ∷ []) [])
      either true t =
          let p = next_new x l m t in
          goes {x = x} (omega (arith, long_more)) (subst (λ (y : ℕ). Chain more y (length es ∷ [])) (sym p) (ends next_end))
      either false t = ends (next_still x l m t)
  chain_grown d {x} (goes {xs = ys} m c) l =
      let p = next_old x l m in
      goes {x = x} (omega (arith, long_more)) (subst (λ (y : ℕ). Chain more y (ys ++ extension (last x ys))) (sym p) (chain_grown x c m))

  -- in any register: a chain stays as it was, with the new entry behind it if that replaces its end
  pub chain_more : (start : ℕ) → start < length es → chain more start ≡ chain es start ++ extension (current es start)
  unfolding current
  chain_more start l = sym (chain_once more (chain_grown start (chain_is es start l) l) (omega (arith, long_more)))

  -- the new entry's own chain is it alone
  pub chain_new : chain more (length es) ≡ length es ∷ []
  chain_new = sym (chain_once more (ends next_end) (omega (arith, long_more)))
