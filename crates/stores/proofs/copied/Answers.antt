-- All 256 bytes are copied.
-- Assumes nothing.
use mathlib.Core.Path.{ap₂, ◌∙◌}
use mathlib.Core.List.{◌++◌, append-nil}
use native.Mathlib.Omega.{arith}
use lib.ListN.{length, replicate, drop_of_length-le}
use lib.Seq.{take_all}
use Rattle.stores.proofs.copied.Goals as goal

pub returns : goal.returns
returns c =
    c.copy_into.ensures ∙ ap₂ ◌++◌ (take_all 256 c.args.s.now (omega (arith, c.requires))) (drop_of_length-le (replicate 256 0) {i = length c.args.s.now} (omega (arith, c.requires))) ∙ append-nil c.args.s.now
