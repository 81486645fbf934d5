-- What the later entries add to the chain, as they are passed.
-- Assumes nothing.
use mathlib.Core.Path.{◌≡◌, sym, ap, ◌∙◌, subst}
use Prim.Native.Nat.{◌+◌, ◌-◌, min}
use native.Mathlib.Omega.{arith}
use lib.ListN.{length}
use Rattle.registers.specs.declared.Entry.{Entry}
use Rattle.registers.specs.Registers.{held, replaces_number}
use Rattle.registers.proofs.Entries.{held_long, read_held}
use Rattle.key_register.proofs.Following.{Followed, followed_none, followed_hit, followed_miss, followed_all, followed_at}
use Rattle.key_register.proofs.follow.Goals as goal
use Rattle.key_register.proofs.follow.Goals.{Start, then-passes, else-passes}

whole : (s : Start) → length s.args.r.entries ≡ 64
whole s = s.well_formed.0.1.1.1.0.1.0.1

long : (s : Start) → length (held s.args.r) ≡ min s.args.r.count 64
long s = held_long s.args.r (whole s)

pub offset_bounds-r-start : goal.offset_bounds-r-start
offset_bounds-r-start c = let l = long (goal.at.offset_bounds-r-start c).Start in omega (arith, c.requires)

pub bounds-r-start : goal.bounds-r-start
bounds-r-start c = let l = long (goal.at.bounds-r-start c).Start in omega (arith, c.requires)

pub overflow_add-later : goal.overflow_add-later
overflow_add-later c = let l = long (goal.at.overflow_add-later c).Start in omega (arith, c.requires)

pub loop-i-init : goal.loop-i-init
loop-i-init c =
    let a = c.args in
    let l = long (goal.at.loop-i-init c).Start in (
      omega (arith, c.requires),
      omega arith,
      subst (λ (e : Entry). Followed (held a.r) a.start e.number a.start 0 (a.start + 1))
          (sym (read_held a.r a.start (whole (goal.at.loop-i-init c).Start) (omega (arith, c.requires)))) (followed_none (held a.r) a.start),
    )

pub overflow_add-steps : goal.overflow_add-steps
overflow_add-steps c =
    let n = c.size-n.ensures in
    let i = c.loop-i.invariant in
    omega arith

pub loop-i-preserved : goal.loop-i-preserved
loop-i-preserved c =
    let l = c.loop-i in
    let a = c.args in
    let n = c.size-n.ensures in
    let long = long (goal.at.loop-i-preserved c).Start in
    let es = held a.r in
    let read = read_held a.r l.i (whole (goal.at.loop-i-preserved c).Start) (omega arith) in
    let test = ap (replaces_number l.reached) (sym read) ∙ sym c.passes.ensures in
    elim c.if-passes.branch [
      | then-passes w ↦ (
        omega arith,
        omega (arith, w.steps-is),
        followed_at (w.reached-is ∙ ap (λ (e : Entry). e.number) read) w.at-is w.steps-is
            (followed_hit es a.start l.reached l.at l.steps l.i l.invariant.2 (omega arith) (test ∙ w.if-passes.true)),
      )
      | else-passes w ↦ (
        omega arith,
        omega (arith, w.steps-is),
        followed_at w.reached-is w.at-is w.steps-is
            (followed_miss es a.start l.reached l.at l.steps l.i l.invariant.2 (omega arith) (test ∙ w.if-passes.false)),
      )
    ]

pub returns : goal.returns
returns c =
    let l = c.loop-i in
    let n = c.size-n.ensures in
    let long = long (goal.at.returns c).Start in
    let both = followed_all (held c.args.r) c.args.start l.reached l.at l.steps l.i l.invariant.2 (omega arith) in record { place = both.0; followed = both.1 }
