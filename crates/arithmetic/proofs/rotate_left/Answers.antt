-- std's rotation is the two shifts, which meet where the word comes round.
-- Assumes nothing.
use mathlib.Core.Path.{◌≡◌, ap, ◌∙◌}
use Prim.Native.Nat.{◌%◌}
use native.Mathlib.Omega.{arith}
use Rattle.forms.specs.Words.{rotl}
use Rattle.forms.proofs.Words.{rotl_code}
use Rattle.arithmetic.proofs.rotate_left.Goals as goal

pub returns : goal.returns
returns c =
    let a = c.args in
    let e : a.k % 64 % 64 ≡ a.k % 64 = omega arith in
    c.rotate_left.ensures ∙ rotl_code a.w (a.k % 64 % 64) (omega arith) (omega arith) ∙ ap (rotl a.w) e
