-- Each way out is one of the definition's rules.
-- Assumes nothing.
use mathlib.Core.Path.{sym, ap, ◌∙◌}
use Prim.Native.Nat.{◌*◌, ◌≤◌}
use native.Mathlib.Omega.{arith}
use lib.ListN.{length, take, drop}
use Rattle.tape_rules.specs.declared.Tape.{Tape}
use Rattle.tape_rules.specs.Steps.{refuses}
use Rattle.tape_rules.proofs.Cases.{gives, key_taken, set_key_short, set_key_refused, set_key_done}
use Rattle.tape.proofs.set_key.Goals as goal
use Rattle.tape.proofs.set_key.Goals.{Else-number-ne0}

pub returns-then-rest-lt131 : goal.returns-then-rest-lt131
returns-then-rest-lt131 c =
    let a = c.args in
    let both = gives a.answer.now
    (set_key_short a.t a.rest.now c.if-rest-lt131.true ∙ ap (λ (x : Tape). refuses x 8 (length a.rest.now)) (sym c.ended.ensures))
    (c.say_number.ensures.returned, c.say_number.ensures.bytes) in record { returned = both.0; bytes = both.1 }

pub returns-then-number-ne0 : goal.returns-then-number-ne0
returns-then-number-ne0 c =
    let a = c.args in
    let both = gives a.answer.now
    (set_key_refused a.t a.rest.now c.if-rest-lt131.false c.size-n.ensures.same c.size-l.ensures.same c.key_refusal-number.ensures c.if-number-ne0.true)
    (c.say_number-then-number-ne0.ensures.returned, c.say_number-then-number-ne0.ensures.bytes) in record { returned = both.0; bytes = both.1 }

-- the used bytes stand within the command
used : (c : Else-number-ne0) → 8 * (c.size-n.result * c.size-l.result) ≤ 128
used c =
    let a = c.args in
    (key_taken _ _ (take 128 (drop 3 a.rest.now)) c.key_refusal-number.ensures c.if-number-ne0.false).used

pub overflow_mul-end : goal.overflow_mul-end
overflow_mul-end c = omega (arith, used c)

pub overflow_mul-end-2 : goal.overflow_mul-end-2
overflow_mul-end-2 c = omega (arith, used c)

pub overflow_add-end : goal.overflow_add-end
overflow_add-end c = omega (arith, used c)

pub slice_bounds-expand_published-end : goal.slice_bounds-expand_published-end
slice_bounds-expand_published-end c = omega (arith, used c, c.if-rest-lt131.false)

pub returns : goal.returns
returns c =
    let a = c.args in
    let both = gives a.answer.now
    (set_key_done a.t a.rest.now c.if-rest-lt131.false c.size-n.ensures.same c.size-l.ensures.same c.key_refusal-number.ensures c.if-number-ne0.false c.expand_published-x.ensures)
    (c.say_number-2.ensures.returned, c.say_number-2.ensures.bytes) in record { returned = both.0; bytes = both.1 }
