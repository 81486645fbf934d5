-- One test after another, in the definition's order.
-- Assumes nothing.
use mathlib.Core.Path.{◌≡◌, sym, ap, ◌∙◌}
use mathlib.Core.Bool.{true}
use Prim.Native.Nat.{◌*◌}
use native.Mathlib.Omega.{arith}
use borrow.Author.Tests.{not-true, not-false}
use Rattle.labyrinth.specs.Refusals.{legal}
use Rattle.labyrinth.specs.Working.{Size}
use Rattle.labyrinth.proofs.Refusals.{legal_size_of}
use Rattle.operands.specs.Operands.{zeros}
use Rattle.tape_rules.proofs.Cases.{from_on, map_unset, map_illegal, map_unused, map_good}
use Rattle.tape.proofs.map_refusal.Goals as goal
use Rattle.tape.proofs.map_refusal.Goals.{Else-not-is_legal}

pub returns-then-not-t : goal.returns-then-not-t
returns-then-not-t c = map_unset _ _ (not-true _ c.if-not-t.true)

pub returns-then-not-is_legal : goal.returns-then-not-is_legal
returns-then-not-is_legal c = map_illegal _ _ (not-false _ c.if-not-t.false) (sym c.is_legal.ensures ∙ c.if-not-is_legal.true)

is-legal-n : (c : Else-not-is_legal) → legal c.args.t.key.n ≡ true
is-legal-n c = sym c.is_legal.ensures ∙ c.if-not-is_legal.false

size : (c : Else-not-is_legal) → Size c.args.t.key.n
size c = legal_size_of _ (is-legal-n c)

pub overflow_mul-used : goal.overflow_mul-used
overflow_mul-used c = let s = size c in omega arith

pub slice_bounds-zeros-count : goal.slice_bounds-zeros-count
slice_bounds-zeros-count c = let s = size c in omega arith

pub slice_bounds-zeros-start : goal.slice_bounds-zeros-start
slice_bounds-zeros-start c = let s = size c in omega arith

pub returns-then-not-zeros : goal.returns-then-not-zeros
returns-then-not-zeros c =
    let a = c.args in
    map_unused a.t a.block.now (not-false _ c.if-not-t.false) (is-legal-n (goal.at.returns-then-not-zeros c).Else-not-is_legal)
    (ap zeros (sym (from_on a.block.now (16 * a.t.key.n))) ∙ sym c.zeros.ensures ∙ c.if-not-zeros.true)

pub returns : goal.returns
returns c =
    let a = c.args in
    map_good a.t a.block.now (not-false _ c.if-not-t.false) (is-legal-n (goal.at.returns c).Else-not-is_legal)
    (ap zeros (sym (from_on a.block.now (16 * a.t.key.n))) ∙ sym c.zeros.ensures ∙ c.if-not-zeros.false)
