-- After any calls from an empty register: what it holds, its chains, and what a look-up gives; and after any calls from any register what it held is there.
-- Assumes nothing.
use mathlib.Core.Path.{◌≡◌, refl, sym, ap, ◌∙◌, subst}
use mathlib.Core.Bool.{true}
use mathlib.Core.List.{List, [], ◌∷◌, ◌++◌, append-nil, append_assoc}
use Prim.Native.Nat.{ℕ, ◌<◌}
use native.Mathlib.Decide.{ℕ_discrete}
use lib.ListN.{length, length-set, take}
use lib.Seq.{take-append_seam}
use Rattle.forms.specs.Lists.{has}
use Rattle.registers.specs.declared.Entry.{Entry}
use Rattle.registers.specs.declared.Register.{Register}
use Rattle.registers.specs.declared.Added.{Added}
use Rattle.registers.specs.declared.Found.{Found}
use Rattle.registers.specs.Registers.{empty, held, entry_at, number_at, chain, current, add_refusal, extended, add, found, look_up}
use Rattle.registers.proofs.Refusals.{present_iff, add_taken, answered_number, add_refused, look_up_done}
use Rattle.register_histories.specs.Calls.{Call, adds, looks_up, after, after_all, reached, entries}
use Rattle.register_histories.specs.Chains.{Sound}
use Rattle.register_histories.proofs.Links.{chain_end, chain_within}
use Rattle.register_histories.proofs.Sound.{place_own, sound_none, sound_more}
use Rattle.register_histories.proofs.Adding.{register_grown, held_grown}

-- ---- one call

-- what holds of a register with an entry more where one was added, and of the same register, holds of what adding hands back
by_answer : (P : Register → Type 0) (r : Register) (number replaces : ℕ) (key : List ℕ)
    → ((add r number replaces key).number ≡ 0 → P (add r number replaces key).register) → P r → P (add r number replaces key).register
by_answer P r number replaces key f p = either (ℕ_discrete (add r number replaces key).number 0)
  where
    either : Dec ((add r number replaces key).number ≡ 0) → P (add r number replaces key).register
    either (yes z) = f z
    either (no d) =
        subst P
        (ap (λ (a : Added). a.register)
        (add_refused r number replaces key (add_refusal (held r) number replaces) refl (λ z. d (answered_number r number replaces key ∙ z)))) p

-- 64 places, always
long_add : (r : Register) (number replaces : ℕ) (key : List ℕ) → length r.entries ≡ 64 → length (add r number replaces key).register.entries ≡ 64
unfolding extended
long_add r number replaces key l =
    by_answer (λ (s : Register). length s.entries ≡ 64) r number replaces key
    (λ z. ap (λ (s : Register). length s.entries) (register_grown r l number replaces key z)
    ∙ length-set r.entries r.count (record { number = number; replaces = replaces; key = key }) ∙ l) l

-- ---- any calls

-- what every call keeps, calls keep
module _ (P : Register → Type 0) (step : (r : Register) (number replaces : ℕ) (key : List ℕ) → P r → P (add r number replaces key).register) where
  pub by_calls : (r : Register) (calls : List Call) → P r → P (after_all r calls)
  unfolding after_all after
  by_calls r [] p = p
  by_calls r (adds number replaces key ∷ calls) p = by_calls (add r number replaces key).register calls (step r number replaces key p)
  by_calls r (looks_up number ∷ calls) p = by_calls r calls p

-- 'Entries are never removed.'
record Grown (r s : Register) : Type 0 where
  long : length s.entries ≡ 64
  more : List Entry
  grown : held s ≡ held r ++ more

grown_add : (r s : Register) (number replaces : ℕ) (key : List ℕ) → Grown r s → Grown r (add s number replaces key).register
grown_add r s number replaces key g =
    by_answer (Grown r) s number replaces key
    (λ z. let e : Entry = record { number = number; replaces = replaces; key = key } in
    record {
      long = long_add s number replaces key g.long;
      more = g.more ++ (e ∷ []);
      grown =
          held_grown s g.long number replaces key z ∙ ap (λ (es : List Entry). es ++ (e ∷ [])) g.grown ∙ append_assoc (held r) g.more (e ∷ []);
    }) g

pub never_removed : (r : Register) (calls : List Call) → length r.entries ≡ 64 → take (length (held r)) (held (after_all r calls)) ≡ held r
never_removed r calls l =
    let g = by_calls (Grown r) (λ s number replaces key. grown_add r s number replaces key) r calls
    (record { long = l; more = []; grown = sym (append-nil (held r)) }) in
    ap (take (length (held r))) g.grown ∙ take-append_seam (held r) g.more

-- ---- from an empty register

record Kept (r : Register) : Type 0 where
  long : length r.entries ≡ 64
  sound : Sound (held r)

empty_kept : Kept empty
unfolding empty held
empty_kept = record { long = refl; sound = sound_none }

add_kept : (r : Register) (number replaces : ℕ) (key : List ℕ) → Kept r → Kept (add r number replaces key).register
add_kept r number replaces key k =
    by_answer Kept r number replaces key
    (λ z. record {
      long = long_add r number replaces key k.long;
      sound =
          subst Sound (sym (held_grown r k.long number replaces key z))
          (sound_more (held r) (record { number = number; replaces = replaces; key = key }) k.sound
          ((add_taken (held r) number replaces).0 (sym (answered_number r number replaces key) ∙ z)));
    }) k

reached_kept : (calls : List Call) → Kept (reached calls)
unfolding reached
reached_kept calls = by_calls Kept add_kept empty calls empty_kept

pub reached_long : (calls : List Call) → length (reached calls).entries ≡ 64
reached_long calls = (reached_kept calls).long

-- numbers are present once, a replaced number is present and stands earlier, no number is named as replaced twice
pub reached_sound : (calls : List Call) → Sound (entries calls)
unfolding entries
reached_sound calls = (reached_kept calls).sound

-- ---- look-ups

-- an entry's number is found at the entry
pub look_up_own : (calls : List Call) (x : ℕ) → x < length (entries calls) → look_up (reached calls) (number_at (entries calls) x) ≡ found 0 (entries calls) x
unfolding entries
look_up_own calls x l =
    let r = reached calls in
    let S = (reached_kept calls).sound in
    let p = (present_iff (number_at (held r) x) (held r)).1 (S.some x l, record { at = x; within = l; named = refl }) in
    sym (look_up_done r (number_at (held r) x) p) ∙ ap (found 0 (held r)) (place_own (held r) S x l)

-- and gives the end of any chain that the entry is in
pub look_up_end : (calls : List Call) (start x : ℕ) → start < length (entries calls) → has x (chain (entries calls) start) ≡ true
    → ((look_up (reached calls) (number_at (entries calls) x)).number ≡ 0)
    × ((look_up (reached calls) (number_at (entries calls) x)).entry ≡ entry_at (entries calls) (current (entries calls) start))
look_up_end calls start x l h =
    let o = look_up_own calls x (chain_within (entries calls) start x l h).1 in
    (ap (λ (f : Found). f.number) o, ap (λ (f : Found). f.entry) o ∙ ap (entry_at (entries calls)) (chain_end (entries calls) start x l h))
