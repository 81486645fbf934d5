-- Absent, or the chain followed to its end.
-- Assumes nothing.
use mathlib.Core.Path.{◌≡◌, sym, ap, ap₂, ◌∙◌, subst}
use mathlib.Core.List.{List}
use Prim.Native.Nat.{ℕ, ◌<◌, min}
use native.Mathlib.Omega.{arith}
use borrow.Author.Tests.{lt-ltb, le-ltb}
use lib.ListN.{length}
use Rattle.forms.proofs.Search.{any_first}
use Rattle.registers.specs.declared.Entry.{Entry}
use Rattle.registers.specs.declared.Found.{Found}
use Rattle.registers.specs.Registers.{blank, held, entry_at, has_number, place, present, current, followed, rule, found}
use Rattle.registers.proofs.Entries.{held_long, read_held}
use Rattle.registers.proofs.Refusals.{look_up_refused, look_up_done}
use Rattle.registers.proofs.Chains.{current_within}
use Rattle.key_register.proofs.look_up.Goals as goal
use Rattle.key_register.proofs.look_up.Goals.{After-follow-end, After-size, Else-size-start, Start}

whole : (s : Start) → length s.args.r.entries ≡ 64
whole s = s.well_formed.0.1.1.1.0.1.0.1

-- where the number stands, as the code found it
placed : (c : After-size) → c.first_from-start.result ≡ place c.args.number (held c.args.r)
unfolding place
placed c = c.first_from-start.ensures

pub returns-then-size-start : goal.returns-then-size-start
unfolding present place
returns-then-size-start c =
    let a = c.args in
    let p = placed (goal.at.returns-then-size-start c).After-size in
    let n = c.size.ensures in
    let l = held_long a.r (whole (goal.at.returns-then-size-start c).Start) in
    ap (λ (e : Entry). let f : Found = record { number = 22; entry = e; rule = 0; followed = 0 } in f) c.blank-none.ensures
    ∙ look_up_refused a.r a.number
    (any_first (has_number a.number) (held a.r) blank ∙ le-ltb (place a.number (held a.r)) (length (held a.r)) (omega arith))

-- the place is one of the entries'
found-place : (c : Else-size-start) → place c.args.number (held c.args.r) < length (held c.args.r)
found-place c =
    let p = placed (goal.at.Else-size-start c).After-size in
    let n = c.size.ensures in
    let l = held_long c.args.r (whole (goal.at.Else-size-start c).Start) in
    omega arith

pub follow-end-requires : goal.follow-end-requires
follow-end-requires c =
    subst (λ (n : ℕ). n < length (held c.args.r)) (sym (placed (goal.at.follow-end-requires c).After-size)) (found-place c)

-- where the chain ends
ended : (c : After-follow-end) → c.follow-end.result.place ≡ current (held c.args.r) (place c.args.number (held c.args.r))
ended c =
    c.follow-end.ensures.place ∙ ap (current (held c.args.r)) (placed (goal.at.After-follow-end c).After-size)

inside : (c : After-follow-end) → c.follow-end.result.place < min c.args.r.count 64
inside c =
    let b = current_within (held c.args.r) (place c.args.number (held c.args.r)) (found-place (goal.at.After-follow-end c).Else-size-start) in
    let e = ended c in
    let l = held_long c.args.r (whole (goal.at.After-follow-end c).Start) in
    omega arith

pub offset_bounds-r-at : goal.offset_bounds-r-at
offset_bounds-r-at c = let b = inside c in omega arith

pub bounds-r-at : goal.bounds-r-at
bounds-r-at c = let b = inside c in omega arith

-- the answer, from its parts
whole-answer : (es : List Entry) (start place steps n : ℕ) (e : Entry) → place ≡ current es start → steps ≡ followed es start → e ≡ entry_at es place → n ≡ rule steps
    → record { number = 0; entry = e; rule = n; followed = steps } ≡ found 0 es start
whole-answer es start place steps n e p f q z =
    ap (λ (k : ℕ). let r : Found = record { number = 0; entry = e; rule = k; followed = steps } in r) z
    ∙ ap₂ (λ (x : Entry) (m : ℕ). let r : Found = record { number = 0; entry = x; rule = rule m; followed = m } in r) (q ∙ ap (entry_at es) p) f

pub returns : goal.returns
unfolding present place
returns c =
    let a = c.args in
    let es = held a.r in
    let e = placed (goal.at.returns c).After-size in
    whole-answer es (place a.number es) c.follow-end.result.place c.follow-end.result.followed c.rule.result _ (ended (goal.at.returns c).After-follow-end)
    (c.follow-end.ensures.followed ∙ ap (followed es) e) (read_held a.r c.follow-end.result.place (whole (goal.at.returns c).Start) (inside (goal.at.returns c).After-follow-end)) c.rule.ensures
    ∙ look_up_done a.r a.number (any_first (has_number a.number) es blank ∙ lt-ltb (place a.number es) (length es) (found-place (goal.at.returns c).Else-size-start))
