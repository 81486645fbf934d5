-- The part over zeros, and the bit behind it if it is short.
-- Assumes nothing.
use mathlib.Core.Path.{ap, ◌∙◌}
use mathlib.Core.List.{List, ◌++◌, append-nil}
use Prim.Native.Nat.{ℕ}
use native.Mathlib.Omega.{arith}
use lib.ListN.{length, take, drop, replicate, drop_of_length-le}
use lib.Seq.{take_all}
use Rattle.modes.proofs.Cmac.{pad_short, pad_long}
use Rattle.masks.proofs.padded.Goals as goal

pub returns-then-size-lt16 : goal.returns-then-size-lt16
returns-then-size-lt16 c =
    let last = c.args.last.now in
    pad_short last c.if-size-lt16.true (c.copy_into.ensures ∙ ap (λ (x : List ℕ). x ++ drop (length last) (replicate 16 0)) (take_all 16 last (omega arith)))

pub returns-else-size-lt16 : goal.returns-else-size-lt16
returns-else-size-lt16 c =
    let last = c.args.last.now in
    c.copy_into.ensures
    ∙ ap (λ (x : List ℕ). take 16 last ++ x) (drop_of_length-le (replicate 16 0) {i = length last} (omega arith))
    ∙ append-nil (take 16 last) ∙ pad_long last c.if-size-lt16.false
