-- A refusal leaves the destination; else the key is unwrapped, at n = 1, unless its check value is wrong.
-- Assumes nothing.
use mathlib.Core.Path.{sym, ap, ◌∙◌}
use mathlib.Core.Bool.{true}
use Prim.Native.Nat.{ℕ}
use lib.ListN.{length}
use Rattle.forms.specs.Refusals.{unless, outcome}
use Rattle.forms.proofs.Refusals.{refused_keeps}
use Rattle.labyrinth.specs.Lent.{lent}
use Rattle.modes.specs.KeyWrap.{authentic, unwrapped}
use Rattle.modes.proofs.Refusals.{Key_taken, unwrap_taken, unwrap_refused, unwrap_passed}
use Rattle.key_wrap_lent.proofs.unwrap_lent.Goals as goal
use Rattle.key_wrap_lent.proofs.unwrap_lent.Goals.{Else-number-ne0}

pub returns-then-number-ne0 : goal.returns-then-number-ne0
returns-then-number-ne0 c = record { number = unwrap_refused _ _ _ _ c.unwrap_refusal-number.ensures c.if-number-ne0.true; key = refused_keeps _ _ _ c.if-number-ne0.true }

-- what a key that is taken has
taken : (c : Else-number-ne0) → let a = c.args in Key_taken 24 136 a.n (length a.src.now) (length a.dst.now) (length a.src.now)
taken c = (unwrap_taken _ _ _ true c.unwrap_refusal-number.ensures c.if-number-ne0.false).0

pub unwrap_into-requires : goal.unwrap_into-requires
unwrap_into-requires c = let k = taken (goal.at.unwrap_into-requires c).Else-number-ne0 in (k.whole, k.top_end, k.eight)

pub returns : goal.returns
returns c =
    let call = c.unwrap_into in
    let a = c.args in
    let one = sym (taken (goal.at.returns c).Else-number-ne0).one in record { number = call.ensures.number ∙ ap (λ (n : ℕ). unless (authentic (lent n a.t.now a.s.now a.u.now a.ks.now) a.src.now) 18 0) one ∙ unwrap_passed _ _ _ _ c.unwrap_refusal-number.ensures c.if-number-ne0.false; key = call.ensures.key ∙ ap (λ (n : ℕ). outcome call.result (unwrapped (lent n a.t.now a.s.now a.u.now a.ks.now) a.src.now) a.dst.now) one }
