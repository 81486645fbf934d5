-- i blocks are there, and the commands left make the rest.
-- Assumes nothing.
use mathlib.Core.Path.{◌≡◌}
use Prim.Native.Nat.{◌/◌}
use lib.ListN.{length}
use Rattle.pages.specs.Pages.{sealed_operands}
use Rattle.page_blocks.proofs.Moves.{gathering}
use Rattle.page_blocks.proofs.gather_blocks.Given as goal

abbrev pub invariant-loop-i : goal.invariant-loop-i
invariant-loop-i l =
    let count = length l.commands / 17 in
    gathering l.commands count l.i l.d ≡ sealed_operands count l.commands
