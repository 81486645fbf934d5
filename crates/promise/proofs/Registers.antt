-- What document 02, Job 10, asks for holds: of registers, and of an operation's answer, from what its contract says.
-- Assumes nothing.
use mathlib.Core.Path.{◌≡◌, refl, sym, ap, ◌∙◌, subst}
use mathlib.Core.Bool.{true, false, true≢false}
use mathlib.Core.List.{List}
use mathlib.Core.Logic.{inl, inr, ◌⊎◌, ⊎_elim}
use Prim.Native.Nat.{ℕ, ◌+◌, ◌<◌, min}
use native.Mathlib.Decide.{ℕ_discrete}
use native.Mathlib.Omega.{arith}
use lib.ListN.{length, take, length-take}
use Rattle.forms.specs.Refusals.{Unless}
use Rattle.forms.proofs.Booleans.{by_test, false_unless}
use Rattle.registers.specs.declared.Entry.{Entry}
use Rattle.registers.specs.declared.Register.{Register}
use Rattle.registers.specs.declared.Added.{Added}
use Rattle.registers.specs.declared.Found.{Found}
use Rattle.registers.specs.Registers.{empty, held, number_at, replaces_number, place, present, chain, current, followed, rule, add_refusal, Present, add, look_up}
use Rattle.registers.proofs.Entries.{matches_iff}
use Rattle.registers.proofs.Refusals.{present_iff, add_number, add_taken, answered_number, add_refused, add_done, look_up_refused, look_up_done}
use Rattle.registers.proofs.Chains.{chain_upward, followed_fewer, rule_one, rule_zero}
use Rattle.register_histories.specs.Calls.{Call, after, after_all, reached, entries}
use Rattle.register_histories.proofs.Links.{chain_along, chain_ends, chain_open}
use Rattle.register_histories.proofs.Sound.{one_root, never_closes, rooted}
use Rattle.register_histories.proofs.Adding.{place_first, held_grown, chain_stays, chain_grows, look_up_new, look_up_replaced, look_up_stays, look_up_grows}
use Rattle.register_histories.proofs.Histories.{never_removed, reached_sound, look_up_end}
use Rattle.promise.specs.Registers.{AddsKey, LooksUpKey, HoldsUpTo64, EmptyHoldsNone, AddedBehind, NeverRemoved, ChainsFollow, ChainsGoUpward, FewFollowed, Gives, AnswersLookUp, Called, none, adding, looking, CallsReach, ReachedSound, ChainsNeverMeet, NoChainCloses, NoNumberCloses, EachInOneChain, SameEnd, ExtendsOneChain, GivesAdded, GivesReplacing, OthersGivenAsBefore, AnswersAdding, AddsTaken}

-- ---- what a register holds

pub holds_up_to_64 : HoldsUpTo64
unfolding held
holds_up_to_64 r = omega (arith, length-take (min r.count 64) r.entries)

pub empty_holds_none : EmptyHoldsNone
unfolding held empty
empty_holds_none r e = ap held e

pub added_behind : AddedBehind
added_behind r number replaces key answer l e z =
    ap (λ (a : Added). held a.register) e ∙ held_grown r l number replaces key (ap (λ (a : Added). a.number) (sym e) ∙ z)

-- where calls lead
called_all : {r s : Register} {calls : List Call} → Called r calls s → s ≡ after_all r calls
unfolding after_all after
called_all none = refl
called_all (adding {calls = cs} e c) = called_all c ∙ ap (λ (a : Added). after_all a.register cs) e
called_all (looking e c) = called_all c

pub entries_stay : NeverRemoved
entries_stay r s calls l c = ap (λ (x : Register). take (length (held r)) (held x)) (called_all c) ∙ never_removed r calls l

-- ---- chains

pub chains_follow : ChainsFollow
unfolding chain
chains_follow es start l =
    record {
      starts = refl;
      goes_on = λ i m. chain_along es start i l m;
      ends = λ y n. chain_ends es start l y n.later n.within n.some n.replaces;
    }

pub chains_go_upward : ChainsGoUpward
chains_go_upward es start i l m = chain_upward es start l i m

-- ---- looking up

gives : (r : Register) (number : ℕ) → (number ≡ 0 → ⊥) → Present number (held r) → ((look_up r number).number ≡ 0) × Gives (held r) number (look_up r number)
unfolding followed chain
gives r number d p =
    let es = held r in
    let f = place_first es number d p in
    let e = sym (look_up_done r number ((present_iff number es).1 (d, p))) in
    subst (λ (a : Found). (a.number ≡ 0) × Gives es number a) (sym e) (
      refl,
      record {
        at = place number es;
        first = f;
        entry = refl;
        followed = refl;
        still_current = rule_zero (followed es (place number es));
        replaced = rule_one (followed es (place number es));
      },
    )

pub answers_look_up : (r : Register) (number : ℕ) {answer : Found} → LooksUpKey r number answer → AnswersLookUp r number answer
answers_look_up r number {answer} e = by_test (present number (held r)) yes_there not_there
  where
    yes_there : present number (held r) ≡ true → AnswersLookUp r number answer
    yes_there t =
        let h = (present_iff number (held r)).0 t in
        inr (h, subst (λ (a : Found). (a.number ≡ 0) × Gives (held r) number a) (sym e) (gives r number h.0 h.1))

    not_there : present number (held r) ≡ false → AnswersLookUp r number answer
    not_there t = inl (λ h. true≢false (sym ((present_iff number (held r)).1 h) ∙ t), e ∙ sym (look_up_refused r number t))

pub few_followed : FewFollowed
unfolding followed chain
few_followed r number answer e = by_test (present number (held r)) some none
  where
    some : present number (held r) ≡ true → answer.followed < 64
    some t =
        let h = (present_iff number (held r)).0 t in
        let g = place_first (held r) number h.0 h.1 in
        let f = followed_fewer (held r) (place number (held r)) g.within in
        let k = ap (λ (a : Found). a.followed) (e ∙ sym (look_up_done r number t)) in
        omega (arith, holds_up_to_64 r)

    none : present number (held r) ≡ false → answer.followed < 64
    none t = let k = ap (λ (a : Found). a.followed) (e ∙ sym (look_up_refused r number t)) in omega arith

-- ---- after any calls from an empty register

pub calls_reach : CallsReach
unfolding reached entries
calls_reach r s calls e c = let h = called_all c ∙ ap (λ (x : Register). after_all x calls) e in (h, ap held h)

pub reached_sound_always : ReachedSound
reached_sound_always = reached_sound

pub chains_never_meet : ChainsNeverMeet
chains_never_meet calls p q x r s d g h = d (one_root (entries calls) (reached_sound calls) p q x r s g h)

pub no_chain_closes : NoChainCloses
no_chain_closes calls start l = chain_open (entries calls) start l

pub no_number_closes : NoNumberCloses
no_number_closes calls number r = never_closes (entries calls) (reached_sound calls) number r

pub each_in_one_chain : EachInOneChain
each_in_one_chain calls x l =
    let S = reached_sound calls in
    let r = rooted (entries calls) S x l in
    record {
      root = r.root;
      is = r.is;
      only = λ other i. one_root (entries calls) S other r.root x i.starts r.is.starts i.member r.is.member;
    }

pub same_end : SameEnd
same_end calls start x y f g l h k e d =
    let a = look_up_end calls start x l h in
    let b = look_up_end calls start y l k in (
      ap (λ (a : Found). a.number) e ∙ a.0,
      ap (λ (a : Found). a.number) d ∙ b.0,
      ap (λ (a : Found). a.entry) e ∙ a.1 ∙ sym (ap (λ (a : Found). a.entry) d ∙ b.1),
    )

-- ---- a key added

-- what an answer tells of adding: that it was taken
taken : (r : Register) (number replaces : ℕ) (key : List ℕ) (answer : Added) → AddsKey r number replaces key answer → answer.number ≡ 0 → (add r number replaces key).number ≡ 0
taken r number replaces key answer e z = ap (λ (a : Added). a.number) (sym e) ∙ z

-- whether a number is the one that is replaced
decided : {A B : Type 0} (n replaces : ℕ) → ((n ≡ replaces → ⊥) ⊎ (replaces ≡ 0) → A) → (n ≡ replaces → (replaces ≡ 0 → ⊥) → B) → Unless ((n ≡ replaces) × (replaces ≡ 0 → ⊥)) A B
decided {A} {B} n replaces f g = either (ℕ_discrete n replaces) (ℕ_discrete replaces 0)
  where
    either : Dec (n ≡ replaces) → Dec (replaces ≡ 0) → Unless ((n ≡ replaces) × (replaces ≡ 0 → ⊥)) A B
    either (yes e) (no d) = inr ((e, d), g e d)
    either (yes e) (yes z) = inl (λ h. h.1 z, f (inr z))
    either (no d) s = inl (λ h. d h.0, f (inl d))

pub extends_one_chain : ExtendsOneChain
unfolding replaces_number
extends_one_chain r number replaces key answer start l e z m =
    let x : Entry = record { number = number; replaces = replaces; key = key } in
    let grown = ap (λ (a : Added). chain (held a.register) start) e ∙ ap (λ (es : List Entry). chain es start) (held_grown r l number replaces key (taken r number replaces key answer e z)) in
    decided (number_at (held r) (current (held r) start)) replaces
    (λ o. grown ∙ chain_stays (held r) x start m
    (false_unless _ (λ t. let h = (matches_iff (number_at (held r) (current (held r) start)) replaces).0 t in
    ⊎_elim (λ (n : number_at (held r) (current (held r) start) ≡ replaces → ⊥). n (sym h.1)) (λ (y : replaces ≡ 0). h.0 (sym h.1 ∙ y)) o)))
    (λ n d. grown ∙ chain_grows (held r) x start m ((matches_iff (number_at (held r) (current (held r) start)) replaces).1 (λ y. d (sym n ∙ y), sym n)))

pub gives_added : GivesAdded
gives_added r number replaces key answer f l e z g =
    g ∙ ap (λ (a : Added). look_up a.register number) e ∙ look_up_new r l number replaces key (taken r number replaces key answer e z)

pub gives_replacing : GivesReplacing
gives_replacing r number replaces key answer f l e z d g =
    g ∙ ap (λ (a : Added). look_up a.register replaces) e ∙ look_up_replaced r l number replaces key (taken r number replaces key answer e z) d

pub others_given : OthersGivenAsBefore
others_given r number replaces key answer m f g l e z p q s =
    let t = taken r number replaces key answer e z in
    let h = there p q in
    let now = s ∙ ap (λ (a : Added). look_up a.register m) e in
    let x : Entry = record { number = number; replaces = replaces; key = key } in
    decided f.entry.number replaces
    (λ o. now ∙ look_up_stays r l number replaces key t m h.0 h.1 (subst (λ (a : Found). (a.entry.number ≡ replaces → ⊥) ⊎ (replaces ≡ 0)) p o) ∙ sym p)
    (λ n d. now ∙ look_up_grows r l number replaces key t m h.0 h.1 (subst (λ (a : Found). a.entry.number ≡ replaces) p n) d
    ∙ ap (λ (a : Found). let w : Found = record { number = 0; entry = x; rule = 1; followed = a.followed + 1 } in w) (sym p))
  where
    -- a number that was found is there
    there : {m : ℕ} {f : Found} → LooksUpKey r m f → f.number ≡ 0 → (m ≡ 0 → ⊥) × Present m (held r)
    there {m} {f} p q =
        by_test (present m (held r)) (λ t. (present_iff m (held r)).0 t)
        (λ t. let k = ap (λ (a : Found). a.number) (p ∙ sym (look_up_refused r m t)) in let y : ⊥ = omega arith in absurd y)

-- ---- what is refused

pub answers_adding : (r : Register) (number replaces : ℕ) (key : List ℕ) {answer : Added} → AddsKey r number replaces key answer → AnswersAdding r number replaces key answer
answers_adding r number replaces key {answer} e =
    let n = ap (λ (a : Added). a.number) e ∙ answered_number r number replaces key in (
      add_number (held r) number replaces n,
      λ z. ap (λ (a : Added). a.register) (e ∙ sym (add_done r number replaces key (sym n ∙ z))),
      λ d. ap (λ (a : Added). a.register) (e ∙ sym (add_refused r number replaces key (add_refusal (held r) number replaces) refl (λ z. d (n ∙ z)))),
    )

pub adds_taken : AddsTaken
adds_taken r number replaces key answer e =
    let n = ap (λ (a : Added). a.number) e ∙ answered_number r number replaces key in
    let t = add_taken (held r) number replaces in
    (λ z. t.0 (sym n ∙ z), λ h. n ∙ t.1 h)
