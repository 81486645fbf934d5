-- A refusal leaves the destination; else the first bytes of the last block are copied to it.
-- Assumes nothing.
use mathlib.Core.Path.{sym, ap, ◌∙◌}
use mathlib.Core.List.{List}
use Prim.Native.Nat.{ℕ}
use lib.ListN.{length}
use Rattle.forms.proofs.Refusals.{refused_keeps}
use Rattle.labyrinth.specs.Lent.{lent}
use Rattle.modes.specs.Cmac.{mac}
use Rattle.modes.proofs.Maps.{keeps_lent_one}
use Rattle.modes.proofs.Refusals.{Cmac_taken, cmac_taken}
use Rattle.cmac_lent.proofs.Chain.{tag_copied}
use Rattle.cmac_lent.proofs.make_lent.Goals as goal
use Rattle.cmac_lent.proofs.make_lent.Goals.{Else-number-ne0}

pub returns-then-number-ne0 : goal.returns-then-number-ne0
returns-then-number-ne0 c = record { number = c.cmac_refusal-number.ensures; tag = refused_keeps _ _ _ c.if-number-ne0.true }

-- what a tag that is taken has
taken : (c : Else-number-ne0) → let a = c.args in Cmac_taken a.n (length a.dst.now)
taken c = cmac_taken _ _ c.cmac_refusal-number.ensures c.if-number-ne0.false

pub returns : goal.returns
returns c =
    let a = c.args in
    let map : ℕ → List ℕ → List ℕ = λ n. lent n a.t.now a.s.now a.u.now a.ks.now in record {
      number = sym c.if-number-ne0.false ∙ c.cmac_refusal-number.ensures;
      tag = tag_copied (map a.n) a.message.now (keeps_lent_one a.n a.t.now a.s.now a.u.now a.ks.now (taken (goal.at.returns c).Else-number-ne0).one) a.dst.now (taken (goal.at.returns c).Else-number-ne0).top
          (c.last_of-last.ensures ∙ ap (λ (n : ℕ). mac (map n) a.message.now) (sym (taken (goal.at.returns c).Else-number-ne0).one)) c.copy_into.ensures;
    }
