-- Each way out is one of the definition's rules.
-- Assumes nothing.
use mathlib.Core.Path.{refl, ap}
use Prim.Native.Nat.{ℕ}
use native.Mathlib.Omega.{arith}
use Rattle.tape_rules.proofs.Cases.{number_set}
use Rattle.tape_run.proofs.Runs.{gives, run_room, run_long, run_whole}
use Rattle.tape_run.proofs.run.Goals as goal

pub returns-then-answers-ne65537 : goal.returns-then-answers-ne65537
returns-then-answers-ne65537 c = let a = c.args in let both = gives a.answers.now (run_room a.tape.now _ c.if-answers-ne65537.true) (refl, refl) in record { returned = both.0; bytes = both.1 }

pub returns-then-long : goal.returns-then-long
returns-then-long c =
    let a = c.args in
    let r = c.if-answers-ne65537.false in
    let both = gives a.answers.now (run_long a.tape.now _ r c.if-long.true) (refl, number_set a.answers.now 4 (omega arith)) in record { returned = both.0; bytes = both.1 }

pub returns : goal.returns
returns c =
    let a = c.args in
    let w = c.work-length.ensures in
    let both = gives a.answers.now (run_whole a.tape.now _ c.if-answers-ne65537.false c.if-long.false)
    (ap (λ (k : ℕ). record { number = 0; length = k }) w.length, w.bytes) in
    record { returned = both.0; bytes = both.1 }
