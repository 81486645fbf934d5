-- The number into A, and the halves of the block.
-- Assumes nothing.
use mathlib.Core.Path.{ap, ◌∙◌}
use mathlib.Core.List.{List, ◌++◌}
use Prim.Native.Nat.{ℕ}
use Rattle.labyrinth.specs.Lent.{lent}
use Rattle.modes.specs.KeyWrap.{MSB64, LSB64}
use Rattle.key_wrap_steps.proofs.unwrap_step.Goals as goal

pub map_halves-requires : goal.map_halves-requires
map_halves-requires c = (c.count_into.auto.a ∙ c.requires.0, c.requires.1)

pub shape_of-a : goal.shape_of-a
shape_of-a c = c.map_halves.auto.a ∙ c.count_into.auto.a

pub returns : goal.returns
returns c =
    let call = c.map_halves in
    let a = c.args in
    let e : List ℕ → List ℕ = lent 1 a.t.now a.s.now a.u.now a.ks.now in
    let x = c.count_into.ensures in
    record { first = call.ensures.first ∙ ap (λ (y : List ℕ). MSB64 (e (y ++ a.r.now))) x; second = call.ensures.second ∙ ap (λ (y : List ℕ). LSB64 (e (y ++ a.r.now))) x }
