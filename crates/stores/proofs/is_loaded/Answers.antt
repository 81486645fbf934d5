-- Set 0, a number outside, or by what the set holds.
-- Assumes nothing.
use mathlib.Core.Path.{sym, ap, ◌∙◌}
use Prim.Native.Nat.{ℕ}
use lib.Dec.{eqb}
use Rattle.sets.specs.declared.Set.{Set}
use Rattle.sets.specs.Sets.{set_refusal, substitution_in, row_in}
use Rattle.sets.proofs.Sets.{set_in_other, loaded_zero, loaded_out, loaded_in}
use Rattle.stores.proofs.is_loaded.Goals as goal

pub returns-then-i-eq0 : goal.returns-then-i-eq0
returns-then-i-eq0 c = sym (loaded_zero _ _ c.if-i-eq0.true)

pub returns-then-i-gt3 : goal.returns-then-i-gt3
returns-then-i-gt3 c = sym (loaded_out _ _ c.if-i-gt3.true)

pub returns : goal.returns
unfolding substitution_in row_in
returns c =
    let a = c.args in
    let z = c.if-i-eq0.false in
    ap (λ (k : ℕ). eqb k 0) (c.kept_refusal.ensures ∙ ap (λ (v : Set). set_refusal v.substitution v.row) (sym (set_in_other a.store a.i z c.if-i-gt3.false)))
    ∙ sym (loaded_in a.store a.i z c.if-i-gt3.false)
