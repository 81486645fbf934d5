-- 15, or the set taken.
-- Assumes nothing.
use mathlib.Core.Path.{◌≡◌, refl, sym, ◌∙◌}
use mathlib.Core.Bool.{Bool, true, false, ◌&&◌}
use mathlib.Core.Logic.{inl}
use native.Mathlib.Omega.{arith}
use Rattle.sets.specs.Sets.{in_store, loaded}
use Rattle.sets.proofs.Sets.{outside, inside, loaded_lt, take_refused, take_taken}
use Rattle.stores.proofs.take.Goals as goal

neither : (a b : Bool) → b ≡ false → (a && b) ≡ false
neither true b e = e
neither false b e = refl

pub returns-then-publisher-gt1 : goal.returns-then-publisher-gt1
returns-then-publisher-gt1 c = take_refused _ _ _ (rw (outside c.args.store c.args.publisher c.args.i (inl c.if-publisher-gt1.true)))

pub returns-then-not-is_loaded : goal.returns-then-not-is_loaded
returns-then-not-is_loaded c = let a = c.args in take_refused a.store a.publisher a.i (neither (in_store a.publisher a.i) (loaded a.store a.i) (sym c.is_loaded.ensures ∙ c.if-not-is_loaded.true))

pub returns : goal.returns
returns c =
    let l = sym c.is_loaded.ensures ∙ c.if-not-is_loaded.false in
    let a = c.args in
    take_taken a.store a.publisher a.i (inside a.store a.publisher a.i c.if-publisher-gt1.false (omega (arith, loaded_lt a.store a.i l))) l
