-- The checks in their order.
-- Assumes nothing.
use mathlib.Core.Path.{◌≡◌, sym, ◌∙◌}
use mathlib.Core.Bool.{true, ◌&&◌}
use Prim.Native.Nat.{◌/◌, ◌%◌, ◌≤◌}
use native.Mathlib.Omega.{arith}
use borrow.Author.Tests.{eq-eqb, ne_eqb}
use lib.Dec.{eqb, leb}
use Rattle.pages.specs.Pages.{record_length}
use Rattle.keyed_pages.specs.Refusals.{write_lengths}
use Rattle.keyed_pages.proofs.Refusals.{body_iff}
use Rattle.keyed_pages.proofs.write_lengths.Goals as goal
use Rattle.keyed_pages.proofs.write_lengths.Goals.{Else-not-is_body}

pub returns-then-title-ne32 : goal.returns-then-title-ne32
unfolding write_lengths
returns-then-title-ne32 c = rw (ne_eqb _ 32 c.if-title-ne32.true)

pub returns-then-start-ne16 : goal.returns-then-start-ne16
unfolding write_lengths
returns-then-start-ne16 c = rw (eq-eqb _ 32 c.if-title-ne32.false, ne_eqb _ 16 c.if-start-ne16.true)

pub returns-then-not-is_body : goal.returns-then-not-is_body
unfolding write_lengths
returns-then-not-is_body c =
    rw (eq-eqb _ 32 c.if-title-ne32.false, eq-eqb _ 16 c.if-start-ne16.false, sym c.is_body.ensures ∙ c.if-not-is_body.true)

-- the body is short from the third check on
body : (c : Else-not-is_body) → (eqb (c.args.body % 16) 0 && leb (c.args.body / 16) 4096) ≡ true
body c = sym c.is_body.ensures ∙ c.if-not-is_body.false

short : (c : Else-not-is_body) → c.args.body ≤ 65536
short c = ((body_iff c.args.body).0 (body c)).1

pub overflow_mul-body : goal.overflow_mul-body
overflow_mul-body c = omega (arith, short c)

pub overflow_add-body : goal.overflow_add-body
overflow_add-body c = omega (arith, short c)

pub returns-then-destination-body : goal.returns-then-destination-body
unfolding write_lengths record_length
returns-then-destination-body c =
    rw (eq-eqb _ 32 c.if-title-ne32.false, eq-eqb _ 16 c.if-start-ne16.false, body (goal.at.returns-then-destination-body c).Else-not-is_body, ne_eqb _ _ c.if-destination-body.true)

pub returns : goal.returns
unfolding write_lengths record_length
returns c =
    rw (eq-eqb _ 32 c.if-title-ne32.false, eq-eqb _ 16 c.if-start-ne16.false, body (goal.at.returns c).Else-not-is_body, eq-eqb _ _ c.if-destination-body.false)
