-- A refusal leaves the destination; else the key is wrapped, at n = 1.
-- Assumes nothing.
use mathlib.Core.Path.{sym, ap, ◌∙◌}
use Prim.Native.Nat.{ℕ}
use lib.ListN.{length}
use Rattle.forms.proofs.Refusals.{refused_keeps}
use Rattle.labyrinth.specs.Lent.{lent}
use Rattle.modes.specs.KeyWrap.{wrapped}
use Rattle.modes.proofs.Refusals.{Key_taken, wrap_taken}
use Rattle.key_wrap_lent.proofs.wrap_lent.Goals as goal
use Rattle.key_wrap_lent.proofs.wrap_lent.Goals.{Else-number-ne0}

pub returns-then-number-ne0 : goal.returns-then-number-ne0
returns-then-number-ne0 c = record { number = c.wrap_refusal-number.ensures; key = refused_keeps _ _ _ c.if-number-ne0.true }

-- what a key that is taken has
taken : (c : Else-number-ne0) → let a = c.args in Key_taken 16 128 a.n (length a.src.now) (length a.src.now) (length a.dst.now)
taken c = wrap_taken _ _ _ c.wrap_refusal-number.ensures c.if-number-ne0.false

pub wrap_into-requires : goal.wrap_into-requires
wrap_into-requires c = let k = taken (goal.at.wrap_into-requires c).Else-number-ne0 in (k.whole, k.top_end, k.eight)

pub returns : goal.returns
returns c =
    let a = c.args in record { number = sym c.if-number-ne0.false ∙ c.wrap_refusal-number.ensures; key = c.wrap_into.ensures ∙ ap (λ (n : ℕ). wrapped (lent n a.t.now a.s.now a.u.now a.ks.now) a.src.now) (sym (taken (goal.at.returns c).Else-number-ne0).one) }
