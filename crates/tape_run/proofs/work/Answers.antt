-- Turn by turn, what was done and what is to come make the tape's answers.
-- Assumes nothing.
use mathlib.Core.Path.{◌≡◌, refl, sym, ap, ◌∙◌}
use mathlib.Core.Bool.{not, false}
use mathlib.Core.List.{◌++◌}
use Prim.Native.Nat.{◌+◌, ◌-◌, ◌≤◌}
use native.Mathlib.Omega.{arith}
use borrow.Author.Tests.{not-true, not-false}
use lib.ListN.{length, take, drop, length-drop}
use Rattle.forms.specs.Lists.{over}
use Rattle.tape_rules.specs.declared.Tape.{Tape}
use Rattle.tape_rules.specs.Steps.{step, returned}
use Rattle.tape_rules.proofs.Cases.{from_on}
use Rattle.tape_rules.proofs.Bounds.{one_if, one_if_top}
use Rattle.tape_run.proofs.Turns.{Turning, turn_first, turn_next, turn_last, turn_length, lent, turns_less}
use Rattle.tape_run.proofs.work.Goals as goal
use Rattle.tape_run.proofs.work.Goals.{After-turn-s, In-loop-going}

pub loop-going-init : goal.loop-going-init
loop-going-init c =
    let a = c.args in
    (turn_first a.tape.now a.answers.now c.fresh-t.ensures, sym (ap (λ (x : Tape). not x.ended) c.fresh-t.ensures))

pub slice_bounds-turn-count : goal.slice_bounds-turn-count
slice_bounds-turn-count c = c.loop-going.invariant.0.in_tape

pub slice_bounds-turn-start : goal.slice_bounds-turn-start
slice_bounds-turn-start c = c.loop-going.invariant.0.in_tape

-- the answers are as long as they were
same_size : (c : In-loop-going) → length c.loop-going.answers ≡ length c.args.answers.now
same_size c = turn_length c.loop-going.invariant.0 c.requires

fits : (c : In-loop-going) → c.loop-going.put ≤ length c.loop-going.answers
fits c =
    let w = c.loop-going.invariant.0 in
    let p = w.in_tape in
    let q = w.behind in
    omega (arith, same_size c, c.requires, one_if_top c.loop-going.t.ended)

pub slice_bounds-turn-count-in-loop-going : goal.slice_bounds-turn-count-in-loop-going
slice_bounds-turn-count-in-loop-going c = fits (goal.at.slice_bounds-turn-count-in-loop-going c).In-loop-going

pub slice_bounds-turn-start-in-loop-going : goal.slice_bounds-turn-start-in-loop-going
slice_bounds-turn-start-in-loop-going c = fits (goal.at.slice_bounds-turn-start-in-loop-going c).In-loop-going

off : (c : In-loop-going) → c.loop-going.t.ended ≡ false
off c = not-true _ (sym c.loop-going.invariant.1 ∙ c.loop-going-test.true)

pub turn-s-requires : goal.turn-s-requires
turn-s-requires c =
    let l = c.loop-going in
    let w = l.invariant.0 in
    let q = w.behind in
    let o = ap one_if (off (goal.at.turn-s-requires c).In-loop-going) in
    let s = c.args.tape.now in
    omega (arith, ap length (from_on s l.at) ∙ length-drop l.at s, ap length (from_on l.answers l.put) ∙ length-drop l.put l.answers, same_size (goal.at.turn-s-requires c).In-loop-going, c.requires)

-- the next turn
stepped : (c : After-turn-s) → let l = c.loop-going in let tape = c.args.tape.now in
    (c.turn-s.result ≡ returned (step l.t (drop l.at tape) 65))
    × (take l.put l.answers ++ (c.turn-s.new.answers ++ drop (length l.answers - l.put) (drop l.put l.answers))
    ≡ take l.put l.answers ++ over (step l.t (drop l.at tape) 65).written (drop l.put l.answers))
stepped c =
    let l = c.loop-going in
    lent c.args.tape.now l.answers l.t l.at l.put c.turn-s.ensures.returned c.turn-s.ensures.bytes

next : (c : After-turn-s) → let l = c.loop-going in
    Turning c.args.tape.now c.args.answers.now c.turn-s.result.next
    (take l.put l.answers ++ (c.turn-s.new.answers ++ drop (length l.answers - l.put) (drop l.put l.answers))) (l.at + c.turn-s.result.taken) (l.put + c.turn-s.result.written)
next c = turn_next c.loop-going.invariant.0 (off (goal.at.After-turn-s c).In-loop-going) (stepped c).0 (stepped c).1

pub overflow_add-at : goal.overflow_add-at
overflow_add-at c = omega (arith, (next (goal.at.overflow_add-at c).After-turn-s).in_tape, c.well_formed)

pub overflow_add-put : goal.overflow_add-put
overflow_add-put c = omega (arith, (next (goal.at.overflow_add-put c).After-turn-s).in_tape, (next (goal.at.overflow_add-put c).After-turn-s).behind, one_if_top c.turn-s.result.next.ended, c.well_formed)

pub loop-going-smaller : goal.loop-going-smaller
loop-going-smaller c =
    let l = c.loop-going in
    omega (arith, turns_less c.args.tape.now l.t l.at l.invariant.0.in_tape (stepped (goal.at.loop-going-smaller c).After-turn-s).0, ap one_if c.loop-going-test.true)

pub loop-going-preserved : goal.loop-going-preserved
loop-going-preserved c = (next (goal.at.loop-going-preserved c).After-turn-s, refl)

pub shape_of-answers : goal.shape_of-answers
shape_of-answers c = turn_length c.loop-going.invariant.0 c.requires

pub returns : goal.returns
returns c = let both = turn_last c.loop-going.invariant.0 (not-false _ (sym c.loop-going.invariant.1 ∙ c.loop-going-test.false)) in record { length = both.0; bytes = both.1 }
