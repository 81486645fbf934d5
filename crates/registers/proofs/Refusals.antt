-- What is refused, in plain terms and in order; and what is answered, by the number.
-- Assumes nothing.
use mathlib.Core.Path.{◌≡◌, refl, ap, ◌∙◌}
use mathlib.Core.Bool.{true, false, not, ◌&&◌, ◌||◌}
use mathlib.Core.List.{List}
use mathlib.Core.Logic.{◌↔◌, ◌⊎◌, inl, inr, ⊎_elim}
use Prim.Native.Nat.{ℕ, zero, suc, ◌<◌}
use native.Mathlib.Decide.{ℕ_discrete}
use native.Mathlib.Omega.{arith}
use lib.Dec.{eqb, ltb}
use lib.ListN.{length, get_or}
use Rattle.forms.specs.Lists.{any}
use Rattle.forms.specs.Refusals.{unless}
use Rattle.forms.proofs.Booleans.{eqb_iff, ltb_iff, and_iff, or_iff, not_iff}
use Rattle.forms.proofs.Refusals.{unless_plain, unless_three, unless_one}
use Rattle.forms.proofs.Search.{any_iff}
use Rattle.registers.specs.declared.Entry.{Entry}
use Rattle.registers.specs.declared.Register.{Register}
use Rattle.registers.specs.Registers.{blank, held, entry_at, matches, has_number, replaces_number, place, present, replaced, new, replaceable, add_refusal, look_up_refusal, Somewhere, Present, Replaced, AddNumber, LookUpNumber, extended, added, add, found, look_up}
use Rattle.registers.proofs.Entries.{held_long, matches_iff}

-- ---- present, replaced

some_iff : (part : Entry → ℕ) (number : ℕ) (es : List Entry) → (any (λ e. matches number (part e)) es ≡ true) ↔ ((number ≡ 0 → ⊥) × Somewhere part number es)
unfolding entry_at
some_iff part number es = (
  λ e. let s = (any_iff (λ e. matches number (part e)) es blank).0 e in
      let t = (matches_iff number (part (get_or es s.0 blank))).0 s.2 in
      (t.0, record { at = s.0; within = s.1; named = t.1 }),
  λ h. let p = h.1 in
      (any_iff (λ e. matches number (part e)) es blank).1 (p.at, p.within, (matches_iff number (part (get_or es p.at blank))).1 (h.0, p.named)),
)

pub present_iff : (number : ℕ) (es : List Entry) → (present number es ≡ true) ↔ ((number ≡ 0 → ⊥) × Present number es)
unfolding present has_number
present_iff number es = some_iff (λ e. e.number) number es

pub replaced_iff : (number : ℕ) (es : List Entry) → (replaced number es ≡ true) ↔ ((number ≡ 0 → ⊥) × Replaced number es)
unfolding replaced replaces_number
replaced_iff number es = some_iff (λ e. e.replaces) number es

-- ---- the tests in plain terms

new_iff : (number : ℕ) (es : List Entry) → (new number es ≡ true) ↔ ((number ≡ 0 → ⊥) × (Present number es → ⊥))
unfolding new
new_iff number es =
    let n = not_iff (eqb number 0 || present number es) (or_iff (eqb number 0) (present number es) (eqb_iff number 0) (present_iff number es)) in (
      λ e. (λ z. n.0 e (inl z), λ p. n.0 e (inr (λ z. n.0 e (inl z), p))),
      λ h. n.1 (λ o. ⊎_elim h.0 (λ (p : (number ≡ 0 → ⊥) × Present number es). h.1 p.1) o),
    )

replaceable_iff : (number : ℕ) (es : List Entry) → (replaceable number es ≡ true) ↔ ((number ≡ 0) ⊎ (Present number es × (Replaced number es → ⊥)))
unfolding replaceable
replaceable_iff number es =
    let b = and_iff (present number es) (not (replaced number es)) (present_iff number es) (not_iff (replaced number es) (replaced_iff number es)) in
    let o = or_iff (eqb number 0) (present number es && not (replaced number es)) (eqb_iff number 0) b in (
      λ e. ⊎_elim inl
          (λ (h : ((number ≡ 0 → ⊥) × Present number es) × ((number ≡ 0 → ⊥) × Replaced number es → ⊥)). inr (h.0.1, λ r. h.1 (h.0.0, r)))
          (o.0 e),
      λ h. o.1 (split (ℕ_discrete number 0) h),
    )
  where
    split : Dec (number ≡ 0) → (number ≡ 0) ⊎ (Present number es × (Replaced number es → ⊥))
        → (number ≡ 0) ⊎ (((number ≡ 0 → ⊥) × Present number es) × ((number ≡ 0 → ⊥) × Replaced number es → ⊥))
    split (yes z) h = inl z
    split (no d) h = ⊎_elim inl (λ (p : Present number es × (Replaced number es → ⊥)). inr ((d, p.0), λ r. p.1 r.1)) h

-- ---- the numbers, exactly when and in order

pub add_number : (es : List Entry) (number replaces : ℕ) {r : ℕ} → r ≡ add_refusal es number replaces → AddNumber es number replaces r
unfolding add_refusal
add_number es number replaces e =
    unless_plain (new number es) 21 (unless (replaceable replaces es) 22 (unless (ltb (length es) 64) 23 0)) e (new_iff number es)
    (λ e. unless_plain (replaceable replaces es) 22 (unless (ltb (length es) 64) 23 0) e (replaceable_iff replaces es)
    (λ e. unless_plain (ltb (length es) 64) 23 0 e (ltb_iff (length es) 64) (λ e. e)))

pub look_up_number : (es : List Entry) (number : ℕ) {r : ℕ} → r ≡ look_up_refusal es number → LookUpNumber es number r
unfolding look_up_refusal
look_up_number es number e = unless_plain (present number es) 22 0 e (present_iff number es) (λ e. e)

-- what is taken
pub add_taken : (es : List Entry) (number replaces : ℕ)
    → (add_refusal es number replaces ≡ 0)
    ↔ (((number ≡ 0 → ⊥) × (Present number es → ⊥)) × ((replaces ≡ 0) ⊎ (Present replaces es × (Replaced replaces es → ⊥))) × (length es < 64))
add_taken es number replaces = unless_three (add_number es number replaces refl)

pub look_up_taken : (es : List Entry) (number : ℕ) → (look_up_refusal es number ≡ 0) ↔ ((number ≡ 0 → ⊥) × Present number es)
look_up_taken es number = unless_one (look_up_number es number refl)

-- where something was added there was room, so the count is as it stands
pub room_count : (r : Register) (number replaces : ℕ) → length r.entries ≡ 64 → add_refusal (held r) number replaces ≡ 0 → r.count < 64
room_count r number replaces l e = let t = ((add_taken (held r) number replaces).0 e).2 in omega (arith, held_long r l)

-- ---- what adding answers, by the number

module _ (r : Register) (number replaces : ℕ) (key : List ℕ) where
  pub answered_number : (add r number replaces key).number ≡ add_refusal (held r) number replaces
  unfolding add
  answered_number = either (add_refusal (held r) number replaces)
    where
      either : (n : ℕ) → (added n r (record { number = number; replaces = replaces; key = key })).number ≡ n
      either zero = refl
      either (suc n) = refl

  pub add_refused : (n : ℕ) → n ≡ add_refusal (held r) number replaces → (n ≡ 0 → ⊥) → record { number = n; register = r } ≡ add r number replaces key
  unfolding add
  add_refused n e d = refused n d ∙ ap (λ (n : ℕ). added n r (record { number = number; replaces = replaces; key = key })) e
    where
      refused : (n : ℕ) → (n ≡ 0 → ⊥) → record { number = n; register = r } ≡ added n r (record { number = number; replaces = replaces; key = key })
      refused zero d = absurd (d refl)
      refused (suc n) d = refl

  pub add_done : add_refusal (held r) number replaces ≡ 0
      → record { number = 0; register = extended r (record { number = number; replaces = replaces; key = key }) } ≡ add r number replaces key
  unfolding add
  add_done e = rw e

-- ---- what looking up answers

pub look_up_refused : (r : Register) (number : ℕ) → present number (held r) ≡ false → record { number = 22; entry = blank; rule = 0; followed = 0 } ≡ look_up r number
unfolding look_up look_up_refusal
look_up_refused r number e = rw e

pub look_up_done : (r : Register) (number : ℕ) → present number (held r) ≡ true → found 0 (held r) (place number (held r)) ≡ look_up r number
unfolding look_up look_up_refusal
look_up_done r number e = rw e
