-- The checks in their order, or the set put in its place.
-- Assumes nothing.
use mathlib.Core.Path.{◌≡◌, sym, ◌∙◌}
use mathlib.Core.Logic.{inl, inr}
use Rattle.sets.specs.Sets.{in_store}
use mathlib.Core.Bool.{true}
use Rattle.field.proofs.Different.{different_split}
use Rattle.sets.proofs.Sets.{set_fine, outside, inside, load_outside, load_refused, load_held, load_taken}
use Rattle.stores.proofs.load.Goals as goal
use Rattle.stores.proofs.load.Goals.{Else-i-gt3}

pub returns-then-publisher-gt1 : goal.returns-then-publisher-gt1
returns-then-publisher-gt1 c = let a = c.args in load_outside a.store a.publisher a.i a.substitution.now a.row (outside a.store a.publisher a.i (inl c.if-publisher-gt1.true))

pub returns-then-i-gt3 : goal.returns-then-i-gt3
returns-then-i-gt3 c = let a = c.args in load_outside a.store a.publisher a.i a.substitution.now a.row (outside a.store a.publisher a.i (inr c.if-i-gt3.true))

-- past 15
within : (c : Else-i-gt3) → let a = c.args in in_store a.publisher a.i ≡ true
within c = let a = c.args in inside a.store a.publisher a.i c.if-publisher-gt1.false c.if-i-gt3.false

pub returns-then-number-ne0 : goal.returns-then-number-ne0
returns-then-number-ne0 c = load_refused _ _ _ _ _ (within (goal.at.returns-then-number-ne0 c).Else-i-gt3) c.set_refusal-number.ensures c.if-number-ne0.true

pub returns-then-is_held : goal.returns-then-is_held
returns-then-is_held c =
    load_held _ _ _ _ _ (within (goal.at.returns-then-is_held c).Else-i-gt3) (sym c.set_refusal-number.ensures ∙ c.if-number-ne0.false) (sym c.is_held.ensures ∙ c.if-is_held.true)

pub copied-s-requires : goal.copied-s-requires
copied-s-requires c = (different_split _ (set_fine _ _ (sym c.set_refusal-number.ensures ∙ c.if-number-ne0.false)).0).0

pub returns : goal.returns
returns c =
    load_taken _ _ _ _ _ (within (goal.at.returns c).Else-i-gt3) (sym c.set_refusal-number.ensures ∙ c.if-number-ne0.false) (sym c.is_held.ensures ∙ c.if-is_held.false) c.copied-s.ensures
