-- i commands are made, and the blocks left make the rest.
-- Assumes nothing.
use mathlib.Core.Path.{◌≡◌}
use lib.ListN.{length, drop}
use Rattle.pages.specs.Pages.{sealed_commands}
use Rattle.page_blocks.proofs.Moves.{moving}
use Rattle.page_blocks.proofs.move_blocks.Given as goal

abbrev pub invariant-loop-i : goal.invariant-loop-i
invariant-loop-i l = (length l.d ≡ length l.initial.d) × (moving l.count l.i l.d ≡ sealed_commands l.count (drop l.count l.initial.d))
