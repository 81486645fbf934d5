-- Look-ups after a key was added, in any register of 64 entries, made by hand too: what each number gives then.
-- Assumes nothing.
use mathlib.Core.Path.{◌≡◌, refl, sym, ap, ap₂, ◌∙◌, subst}
use mathlib.Core.Bool.{Bool, true, false, true≢false}
use mathlib.Core.List.{List, [], ◌∷◌, ◌++◌, append-nil}
use mathlib.Core.Logic.{◌⊎◌, ⊎_elim}
use Prim.Native.Nat.{ℕ, suc, ◌+◌, ◌≤◌, ◌<◌}
use native.Mathlib.Omega.{arith}
use borrow.Author.Tests.{ltb-true, ltb-false}
use lib.Dec.{ltb}
use lib.ListN.{length, length-append}
use Rattle.forms.specs.Lists.{when, last}
use Rattle.forms.proofs.Booleans.{by_test, false_unless}
use Rattle.forms.proofs.Search.{First, first_is, first_once, last_append}
use Rattle.registers.specs.declared.Entry.{Entry}
use Rattle.registers.specs.declared.Register.{Register}
use Rattle.registers.specs.declared.Added.{Added}
use Rattle.registers.specs.declared.Found.{Found}
use Rattle.registers.specs.Registers.{blank, held, entry_at, number_at, has_number, replaces_number, place, next, chain, replacements, current, followed, rule, add_refusal, Present, Replaced, extended, add, found, look_up}
use Rattle.registers.proofs.Entries.{has_iff, matches_iff}
use Rattle.registers.proofs.Refusals.{present_iff, add_taken, room_count, answered_number, add_done, look_up_done}
use Rattle.registers.proofs.Chains.{current_within, step_none}
use Rattle.register_histories.specs.Chains.{FirstWith}
use Rattle.register_histories.proofs.Links.{next_of}
use Rattle.register_histories.proofs.Extended.{held_extended, long_more, old_entry, new_entry, old_number, new_number, extension, chain_more, chain_new}

-- ---- the first entry with a number

module _ (es : List Entry) (number : ℕ) (d : number ≡ 0 → ⊥) where
  pub place_first : Present number es → FirstWith es number (place number es)
  unfolding place entry_at
  place_first p =
      let f = first_is (has_number number) es blank 0 (omega arith) in
      let l : place number es < length es = inside f in
      record {
        within = l;
        named = ((has_iff number es (place number es)).0 (f.passes l)).1;
        first = λ k m e. true≢false (sym ((has_iff number es k).1 (d, e)) ∙ f.none k (omega arith) m);
      }
    where
      inside : First (has_number number) es blank 0 (place number es) → place number es < length es
      inside f = by_test (ltb (place number es) (length es)) (λ t. ltb-true (place number es) (length es) t)
          (λ t. let b = ltb-false (place number es) (length es) t in
          absurd (true≢false (sym ((has_iff number es p.at).1 (d, p.named)) ∙ f.none p.at (omega arith) (omega (arith, p.within)))))

  pub place_is : (at : ℕ) → FirstWith es number at → place number es ≡ at
  unfolding place entry_at
  place_is at h =
      let l = h.within in
      first_once (has_number number) es blank 0 (place number es) at (first_is (has_number number) es blank 0 (omega arith))
      (record {
        from = omega arith;
        within = omega arith;
        none = λ k a b. false_unless (has_number number (entry_at es k)) (λ t. h.first k b ((has_iff number es k).0 t).1);
        passes = λ m. (has_iff number es at).1 (d, h.named);
      })

-- ---- one entry more

module _ (es : List Entry) (e : Entry) where
  first_old : (number : ℕ) → (number ≡ 0 → ⊥) → Present number es → FirstWith (es ++ (e ∷ [])) number (place number es)
  first_old number d p =
      let h = place_first es number d p in
      let l = h.within in
      record {
        within = omega (arith, long_more es e);
        named = old_number es e (place number es) l ∙ h.named;
        first = λ k m z. h.first k m (sym (old_number es e k (omega arith)) ∙ z);
      }

  first_new : (Present e.number es → ⊥) → FirstWith (es ++ (e ∷ [])) e.number (length es)
  first_new p =
      record {
        within = omega (arith, long_more es e);
        named = new_number es e;
        first = λ k m z. p (record { at = k; within = m; named = sym (old_number es e k m) ∙ z });
      }

  -- a chain whose end isn't replaced is what it was; else the new entry is its end
  module _ (start : ℕ) (l : start < length es) where
    pub chain_stays : replaces_number (number_at es (current es start)) e ≡ false → chain (es ++ (e ∷ [])) start ≡ chain es start
    unfolding extension
    chain_stays t = chain_more es e start l ∙ ap (λ (b : Bool). chain es start ++ when b (length es ∷ []) []) t ∙ append-nil (chain es start)

    pub chain_grows : replaces_number (number_at es (current es start)) e ≡ true → chain (es ++ (e ∷ [])) start ≡ chain es start ++ (length es ∷ [])
    unfolding extension
    chain_grows t = chain_more es e start l ∙ ap (λ (b : Bool). chain es start ++ when b (length es ∷ []) []) t

  -- what is given, by the chain: the end, and one less than its places followed
  by_chain : (es' : List Entry) (start : ℕ) (zs : List ℕ) (x : Entry) (n : ℕ) → chain es' start ≡ zs → entry_at es' (last start zs) ≡ x → length zs ≡ suc n
      → found 0 es' start ≡ record { number = 0; entry = x; rule = rule n; followed = n }
  unfolding current followed chain
  by_chain es' start zs x n c p q =
      let m : length (replacements es' start) ≡ n = let k = ap length c in omega arith in
      ap₂ (λ (y : Entry) (k : ℕ). let f : Found = record { number = 0; entry = y; rule = rule k; followed = k } in f)
      (ap (λ (xs : List ℕ). entry_at es' (last start xs)) c ∙ p) m

  module _ (start : ℕ) (l : start < length es) where
    pub found_stays : replaces_number (number_at es (current es start)) e ≡ false → found 0 (es ++ (e ∷ [])) start ≡ found 0 es start
    unfolding current followed chain
    found_stays t =
        by_chain (es ++ (e ∷ [])) start (chain es start) (entry_at es (current es start)) (followed es start) (chain_stays start l t)
        (old_entry es e (current es start) (current_within es start l)) refl

    pub found_grows : replaces_number (number_at es (current es start)) e ≡ true
        → found 0 (es ++ (e ∷ [])) start ≡ record { number = 0; entry = e; rule = 1; followed = followed es start + 1 }
    unfolding followed chain rule last
    found_grows t =
        by_chain (es ++ (e ∷ [])) start (chain es start ++ (length es ∷ [])) e (suc (followed es start)) (chain_grows start l t)
        (ap (entry_at (es ++ (e ∷ []))) (last_append start (chain es start) (length es) []) ∙ new_entry es e) (omega (arith, length-append (chain es start) (length es ∷ [])))
        ∙ ap (λ (k : ℕ). let f : Found = record { number = 0; entry = e; rule = 1; followed = k } in f) (omega arith)

  pub found_new : found 0 (es ++ (e ∷ [])) (length es) ≡ record { number = 0; entry = e; rule = 0; followed = 0 }
  unfolding rule last
  found_new = by_chain (es ++ (e ∷ [])) (length es) (length es ∷ []) e 0 (chain_new es e) (new_entry es e) refl

-- ---- what is answered once a key was added

module _ (r : Register) (long : length r.entries ≡ 64) (number replaces : ℕ) (key : List ℕ) (z : (add r number replaces key).number ≡ 0) where
  abbrev entry : Entry
  entry = record { number = number; replaces = replaces; key = key }

  taken : add_refusal (held r) number replaces ≡ 0
  taken = sym (answered_number r number replaces key) ∙ z

  pub register_grown : (add r number replaces key).register ≡ extended r entry
  register_grown = sym (ap (λ (a : Added). a.register) (add_done r number replaces key taken))

  pub held_grown : held (add r number replaces key).register ≡ held r ++ (entry ∷ [])
  held_grown = ap held register_grown ∙ held_extended r entry long (room_count r number replaces long taken)

  -- a number that the register has now: the answer is what the entries give from its place on
  looked_up : (m at : ℕ) → (m ≡ 0 → ⊥) → FirstWith (held r ++ (entry ∷ [])) m at → look_up (add r number replaces key).register m ≡ found 0 (held r ++ (entry ∷ [])) at
  looked_up m at d f =
      let es = held (add r number replaces key).register in
      let f' = subst (λ (xs : List Entry). FirstWith xs m at) (sym held_grown) f in
      let p = (present_iff m es).1 (d, record { at = at; within = f'.within; named = f'.named }) in
      sym (look_up_done (add r number replaces key).register m p) ∙ ap (found 0 es) (place_is es m d at f')
      ∙ ap (λ (xs : List Entry). found 0 xs at) held_grown

  -- the added number gives the added entry
  pub look_up_new : look_up (add r number replaces key).register number ≡ record { number = 0; entry = entry; rule = 0; followed = 0 }
  look_up_new =
      let t = ((add_taken (held r) number replaces).0 taken).0 in
      looked_up number (length (held r)) t.0 (first_new (held r) entry t.1) ∙ found_new (held r) entry

  -- any number that it had: as before, or one replacement more
  module _ (m : ℕ) (d : m ≡ 0 → ⊥) (p : Present m (held r)) where
    before : look_up r m ≡ found 0 (held r) (place m (held r))
    before = sym (look_up_done r m ((present_iff m (held r)).1 (d, p)))

    after : look_up (add r number replaces key).register m ≡ found 0 (held r ++ (entry ∷ [])) (place m (held r))
    after = looked_up m (place m (held r)) d (first_old (held r) entry m d p)

    ended : (look_up r m).entry.number ≡ number_at (held r) (current (held r) (place m (held r)))
    ended = ap (λ (f : Found). f.entry.number) before

    pub look_up_stays : ((look_up r m).entry.number ≡ replaces → ⊥) ⊎ (replaces ≡ 0) → look_up (add r number replaces key).register m ≡ look_up r m
    unfolding replaces_number
    look_up_stays o =
        after
        ∙ found_stays (held r) entry (place m (held r)) (place_first (held r) m d p).within
        (false_unless _ (λ t. let h = (matches_iff (number_at (held r) (current (held r) (place m (held r)))) replaces).0 t in
        ⊎_elim (λ (n : (look_up r m).entry.number ≡ replaces → ⊥). n (ended ∙ sym h.1)) (λ (y : replaces ≡ 0). h.0 (sym h.1 ∙ y)) o))
        ∙ sym before

    pub look_up_grows : (look_up r m).entry.number ≡ replaces → (replaces ≡ 0 → ⊥)
        → look_up (add r number replaces key).register m ≡ record { number = 0; entry = entry; rule = 1; followed = (look_up r m).followed + 1 }
    unfolding replaces_number
    look_up_grows e n =
        after
        ∙ found_grows (held r) entry (place m (held r)) (place_first (held r) m d p).within
        ((matches_iff (number_at (held r) (current (held r) (place m (held r)))) replaces).1 (λ y. n (sym e ∙ ended ∙ y), sym e ∙ ended))
        ∙ ap (λ (f : Found). let g : Found = record { number = 0; entry = entry; rule = 1; followed = f.followed + 1 } in g) (sym before)

  -- the replaced number gives the added entry, one replacement having been followed: it had none before
  pub look_up_replaced : (replaces ≡ 0 → ⊥) → look_up (add r number replaces key).register replaces ≡ record { number = 0; entry = entry; rule = 1; followed = 1 }
  look_up_replaced n =
      ⊎_elim (λ (y : replaces ≡ 0). absurd (n y)) known ((add_taken (held r) number replaces).0 taken).1
    where
      known : Present replaces (held r) × (Replaced replaces (held r) → ⊥)
          → look_up (add r number replaces key).register replaces ≡ record { number = 0; entry = entry; rule = 1; followed = 1 }
      known h =
          let f = place_first (held r) replaces n h.0 in
          let at = place replaces (held r) in
          let none : length (held r) ≤ next (held r) at = by_test (ltb (next (held r) at) (length (held r)))
          (λ t. let l = ltb-true (next (held r) at) (length (held r)) t in
          let k = next_of (held r) at f.within l in
          absurd (h.1 (record { at = next (held r) at; within = l; named = k.replaces ∙ f.named })))
          (λ t. ltb-false (next (held r) at) (length (held r)) t) in
          let s = step_none (held r) at f.within none in
          let b = before replaces n h.0 in
          look_up_grows replaces n h.0 (ended replaces n h.0 ∙ ap (number_at (held r)) s.0 ∙ f.named) n
          ∙ ap (λ (k : ℕ). let g : Found = record { number = 0; entry = entry; rule = 1; followed = k + 1 } in g) (ap (λ (f : Found). f.followed) b ∙ s.1)
