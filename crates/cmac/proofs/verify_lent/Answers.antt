-- A refusal is a no; else the first bytes of the last block are compared with the given ones.
-- Assumes nothing.
use mathlib.Core.Path.{◌≡◌, sym, ap, ◌∙◌}
use Prim.Native.Nat.{ℕ, ◌≤◌}
use native.Mathlib.Omega.{arith}
use lib.ListN.{length}
use lib.Seq.{length-take-le}
use Rattle.labyrinth.specs.Lent.{lent}
use Rattle.modes.specs.Cmac.{mac}
use Rattle.modes.proofs.Maps.{keeps_lent_one}
use Rattle.modes.proofs.Refusals.{Cmac_taken, cmac_taken}
use Rattle.modes.proofs.Cmac.{length_mac}
use Rattle.cmac.proofs.Tags.{refused_no, compared_yes}
use Rattle.cmac.proofs.verify_lent.Goals as goal
use Rattle.cmac.proofs.verify_lent.Goals.{After-last_of-made, Else-number-ne0}

pub returns-then-number-ne0 : goal.returns-then-number-ne0
returns-then-number-ne0 c = c.refused.ensures ∙ refused_no _ _ _ _ c.cmac_refusal-number.ensures c.if-number-ne0.true

-- what a tag that is taken has, the last block, and that it is as long at least
taken : (c : Else-number-ne0) → let a = c.args in Cmac_taken a.n (length a.tag.now)
taken c = cmac_taken _ _ c.cmac_refusal-number.ensures c.if-number-ne0.false

last : (c : After-last_of-made) → let a = c.args in c.last_of-made.result ≡ mac (lent a.n a.t.now a.s.now a.u.now a.ks.now) a.message.now
last c =
    let a = c.args in
    c.last_of-made.ensures ∙ ap (λ (n : ℕ). mac (lent n a.t.now a.s.now a.u.now a.ks.now) a.message.now) (sym (taken (goal.at.After-last_of-made c).Else-number-ne0).one)

inside : (c : After-last_of-made) → length c.args.tag.now ≤ length c.last_of-made.result
inside c =
    let a = c.args in
    omega (arith, (taken (goal.at.After-last_of-made c).Else-number-ne0).top, ap length (last c), length_mac _ (keeps_lent_one a.n a.t.now a.s.now a.u.now a.ks.now (taken (goal.at.After-last_of-made c).Else-number-ne0).one) a.message.now)

pub slice_bounds-made-end : goal.slice_bounds-made-end
slice_bounds-made-end c = inside c

pub slice_bounds-equal-end : goal.slice_bounds-equal-end
slice_bounds-equal-end c = sym (length-take-le _ c.last_of-made.result (inside (goal.at.slice_bounds-equal-end c).After-last_of-made))

pub returns : goal.returns
returns c =
    compared_yes _ _ _ _ c.cmac_refusal-number.ensures c.if-number-ne0.false (last (goal.at.returns c).After-last_of-made) c.equal.ensures
