-- The carry stands before byte i: the bytes before it still stand, those from it on are done.
-- Assumes nothing.
use mathlib.Core.Path.{◌≡◌, sym, ap, ◌∙◌}
use Prim.Native.Nat.{ℕ, ◌+◌, ◌-◌, ◌/◌, ◌%◌}
use native.Mathlib.Omega.{arith}
use borrow.Author.Rules.{rules}
use lib.ListN.{get_or, set}
use Rattle.numbers.proofs.Adding.{added, added_next, before_next, added_none, scaled_all}
use Rattle.numbers.proofs.add_into.Goals as goal

pub loop-i-preserved : goal.loop-i-preserved
loop-i-preserved c =
    let x = c.from.result in
    let l = c.loop-i in
    let carry = l.carry in
    let e : x ≡ get_or l.c (l.i - 1) 0 = c.from.ensures in (
      before_next l.c c.args.c.now l.i ((x + carry % 256) % 256) l.invariant.0,
      ap (λ (y : ℕ). added (set l.c (l.i - 1) ((x + carry % 256) % 256)) (l.i - 1) (carry / 256 + (y + carry % 256) / 256)) e
          ∙ added_next l.c l.i carry (omega arith) (omega arith) (ap (λ (y : ℕ). (y + carry % 256) % 256) e) ∙ l.invariant.1,
    )

pub returns-then-carry-eq0 : goal.returns-then-carry-eq0
returns-then-carry-eq0 c =
    let l = c.loop-i in
    sym (added_none l.c c.args.c.now l.i (λ k. search rules) l.invariant.0 (omega arith) c.if-carry-eq0.true) ∙ l.invariant.1

pub returns-after-loop-i : goal.returns-after-loop-i
returns-after-loop-i c = let l = c.loop-i in sym (scaled_all 1 l.c l.i l.carry (omega arith)) ∙ l.invariant.1
