-- Every word is left at first, and eight of the sixteen bytes are asked to be zero.
-- Assumes nothing.
use mathlib.Core.Path.{◌≡◌, subst}
use mathlib.Core.List.{List}
use Prim.Native.Nat.{ℕ}
use native.Mathlib.Omega.{arith}
use Rattle.field.specs.Mixing.{matrix}
use Rattle.rows.specs.Inverse.{constant_row, neutral}
use Rattle.judge.specs.Elimination.{Found}
use Rattle.judge.proofs.Counts.{judged}
use Rattle.judge.proofs.judge.Goals as goal

pub returns : goal.returns
unfolding neutral constant_row
returns c =
    let g = c.args.g in
    let r = c.search-w.result in
    let found : Found c.matrix.result c.matrix-every.result 8 16 r = c.search-w.ensures in
    let every : c.matrix-every.result ≡ matrix neutral = c.matrix-every.ensures in
    let row : c.matrix.result ≡ matrix g = c.matrix.ensures in
    judged g r (omega (arith, c.search-w.type_inv))
    (subst (λ (a : List (List ℕ)). Found (matrix g) a 8 16 r) every (subst (λ (x : List (List ℕ)). Found x c.matrix-every.result 8 16 r) row found))
