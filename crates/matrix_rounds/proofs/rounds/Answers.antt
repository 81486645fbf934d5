-- At half-block i of the schedule i - 2 iterations are done.
-- Assumes nothing.
use Rattle.std.proofs.Common.{◌≡◌, ℕ, ◌+◌, ◌*◌, ◌<◌, sym, refl, ap, ◌∙◌, le_of_eq, arith}
use Rattle.std.proofs.Math.Nat.{mul-lt-mul_of_pos_right}
use Rattle.forms.proofs.Booleans.{when_spared}
use Rattle.labyrinth.specs.Working.{Size}
use Rattle.labyrinth.proofs.Refusals.{legal_size_of}
use Rattle.labyrinth.proofs.Rounds.{ran_none, ran_inside, ran_more, ran_all, ran_legal}
use Rattle.matrix_rounds.proofs.rounds.Goals as goal
use Rattle.matrix_rounds.proofs.rounds.Goals.{Else-not-is_legal}

-- n is one of the three
size : (c : Else-not-is_legal) → Size c.args.n
size c = legal_size_of c.args.n (sym c.is_legal.ensures ∙ c.if-not-is_legal.false)

pub returns-then-not-is_legal : goal.returns-then-not-is_legal
returns-then-not-is_legal c = when_spared _ _ c.is_legal.ensures c.if-not-is_legal.true

pub loop-i-init : goal.loop-i-init
loop-i-init c = ran_none _ _ (size (goal.at.loop-i-init c).Else-not-is_legal) _ _ (omega arith) (omega arith)

pub overflow_mul-i : goal.overflow_mul-i
overflow_mul-i c =
    let z = size (goal.at.overflow_mul-i c).Else-not-is_legal in
    let l : c.loop-i.i < 18 = omega arith in
    omega (arith, mul-lt-mul_of_pos_right l z.pos)

pub round-requires : goal.round-requires
round-requires c =
    let z = size (goal.at.round-requires c).Else-not-is_legal in
    let l : c.loop-i.i < 18 = omega arith in
    let p = c.loop-i.invariant in
    (z, ran_inside _ _ z _ _ (omega arith) (omega arith) (mul-lt-mul_of_pos_right l z.pos) p, p.high, p.low)

pub loop-i-preserved : goal.loop-i-preserved
loop-i-preserved c =
    let z = size (goal.at.loop-i-preserved c).Else-not-is_legal in
    let i = c.loop-i.i in
    let n = c.args.n in
    let l : i < 18 = omega arith in
    let next : (i + 1) * n ≡ i * n + n = omega arith in
    rw next (ran_more _ _ z _ _ (omega arith) (omega arith) (mul-lt-mul_of_pos_right l z.pos) c.round.ensures c.loop-i.invariant)

pub returns : goal.returns
returns c =
    let z = size (goal.at.returns c).Else-not-is_legal in
    let a = c.args in
    let end : c.loop-i.i ≡ 18 = omega arith in
    ran_legal _ a.n a.n refl z _ a.h (ran_all _ _ z _ _ (omega arith) (omega arith) (le_of_eq (ap (λ (i : ℕ). i * a.n) (sym end))) c.loop-i.invariant)
