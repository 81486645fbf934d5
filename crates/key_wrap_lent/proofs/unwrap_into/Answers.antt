-- The steps work in a room; what they made is copied only where the check value is right.
-- Assumes nothing.
use mathlib.Core.Path.{◌≡◌, refl, sym, ap, ◌∙◌}
use mathlib.Core.Bool.{Bool}
use mathlib.Core.List.{◌++◌}
use native.Mathlib.Omega.{arith}
use lib.ListN.{length, take, drop, replicate, length-append}
use Rattle.forms.specs.Refusals.{unless}
use Rattle.labyrinth.specs.Lent.{lent}
use Rattle.modes.specs.KeyWrap.{W⁻¹, authentic}
use Rattle.key_wrap_steps.proofs.Refusals.{steps_made}
use Rattle.key_wrap_lent.proofs.Keys.{Ready, ready, checked, front_part, unwrap_made}
use Rattle.key_wrap_lent.proofs.unwrap_into.Goals as goal
use Rattle.key_wrap_lent.proofs.unwrap_into.Goals.{After-equal, After-r-3-1, After-w_inverse, Else-not-equal}

-- A and the room hold the source
laid : (c : After-r-3-1) → let a = c.args in Ready a.src.now a.dst.now c.copy_into.new.d c.copy_into-2.new.d
laid c =
    ready c.args.src.now c.args.dst.now (replicate 8 0) c.room-r.result c.requires.2 c.requires.1 refl
    c.copy_into.ensures c.room-r.ensures.long c.copy_into-2.ensures

pub slice_bounds-w_inverse-end-2 : goal.slice_bounds-w_inverse-end-2
slice_bounds-w_inverse-end-2 c = sym (laid c).size

-- what the steps make of both
made : (c : After-w_inverse) → let a = c.args in
    c.w_inverse.new.a ++ c.w_inverse.new.r
    ≡ W⁻¹ (lent 1 a.t.now a.s.now a.u.now a.ks.now) (c.copy_into.new.d ++ take (length a.dst.now) c.copy_into-2.new.d)
made c =
    let r = laid (goal.at.After-w_inverse c).After-r-3-1 in
    steps_made _ _ _ _ r.eight (omega (arith, r.size, c.requires.0, c.requires.2)) (omega (arith, r.size, c.requires.1, c.requires.2)) c.w_inverse.ensures.number c.w_inverse.ensures.made

-- the comparison is the check
check : (c : After-equal) → let a = c.args in c.equal.result ≡ authentic (lent 1 a.t.now a.s.now a.u.now a.ks.now) a.src.now
check c =
    let a = c.args in
    checked (lent 1 a.t.now a.s.now a.u.now a.ks.now) a.src.now a.dst.now _ _ (laid (goal.at.After-equal c).After-r-3-1)
    c.w_inverse.new.a c.w_inverse.new.r c.w_inverse.auto.a c.w_inverse.auto.r (made (goal.at.After-equal c).After-w_inverse)
    c.check_value-icv.ensures c.equal.ensures

-- behind it, the room's front is what the steps made
front : (c : Else-not-equal)
    →
    let a = c.args in
    take (length a.dst.now) (c.w_inverse.new.r ++ drop (length a.dst.now) c.copy_into-2.new.d) ≡ c.w_inverse.new.r
front c =
    let a = c.args in
    front_part (lent 1 a.t.now a.s.now a.u.now a.ks.now) a.src.now a.dst.now _ _ (laid (goal.at.Else-not-equal c).After-r-3-1)
    c.w_inverse.new.a c.w_inverse.new.r c.w_inverse.auto.a c.w_inverse.auto.r (made (goal.at.Else-not-equal c).After-w_inverse)

pub returns-then-not-equal : goal.returns-then-not-equal
returns-then-not-equal c = record { number = ap (λ (b : Bool). unless b 18 0) (sym (sym (check (goal.at.returns-then-not-equal c).After-equal) ∙ c.if-not-equal.true)); key = refl }

pub slice_bounds-r-end-2 : goal.slice_bounds-r-end-2
slice_bounds-r-end-2 c =
    let d = c.args.dst.now in
    omega (arith, length-append c.w_inverse.new.r (drop (length d) c.copy_into-2.new.d), c.w_inverse.auto.r, (laid (goal.at.slice_bounds-r-end-2 c).After-r-3-1).size)

pub slice_bounds-copy_into-end-4 : goal.slice_bounds-copy_into-end-4
slice_bounds-copy_into-end-4 c =
    sym (ap length (front (goal.at.slice_bounds-copy_into-end-4 c).Else-not-equal) ∙ c.w_inverse.auto.r ∙ (laid (goal.at.slice_bounds-copy_into-end-4 c).After-r-3-1).size)

pub returns : goal.returns
returns c =
    let a = c.args in record {
      number = ap (λ (b : Bool). unless b 18 0) (sym (sym (check (goal.at.returns c).After-equal) ∙ c.if-not-equal.false));
      key = unwrap_made (lent 1 a.t.now a.s.now a.u.now a.ks.now) a.src.now a.dst.now _ _ (laid (goal.at.returns c).After-r-3-1)
          c.w_inverse.new.a c.w_inverse.new.r c.w_inverse.auto.a c.w_inverse.auto.r (made (goal.at.returns c).After-w_inverse)
          c.copy_into-3.ensures;
    }
