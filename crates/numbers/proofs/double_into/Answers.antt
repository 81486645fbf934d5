-- The carry stands before byte i: the bytes before it still stand, those from it on are done.
-- Assumes nothing.
use mathlib.Core.Path.{◌≡◌, sym, ap, ◌∙◌}
use Prim.Native.Nat.{ℕ, ◌+◌, ◌-◌, ◌*◌, ◌/◌, ◌%◌}
use native.Mathlib.Omega.{arith}
use lib.ListN.{get_or}
use Rattle.numbers.proofs.Adding.{scaled_next, scaled_all}
use Rattle.numbers.proofs.double_into.Goals as goal

pub loop-i-preserved : goal.loop-i-preserved
loop-i-preserved c =
    let l = c.loop-i in
    let e : c.from.result ≡ get_or l.c (l.i - 1) 0 = c.from.ensures in (
      omega arith,
      scaled_next 2 l.c l.i l.carry (omega arith) (omega arith) (ap (λ (y : ℕ). (2 * y + l.carry) % 256) e) (ap (λ (y : ℕ). (2 * y + l.carry) / 256) e) ∙ l.invariant.1,
    )

pub returns : goal.returns
returns c = let l = c.loop-i in sym (scaled_all 2 l.c l.i l.carry (omega arith)) ∙ l.invariant.1
