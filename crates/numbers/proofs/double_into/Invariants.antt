-- The carry stands before byte i: the bytes before it still stand, those from it on are done.
-- Assumes nothing.
use mathlib.Core.Path.{◌≡◌}
use Prim.Native.Nat.{◌*◌, ◌<◌}
use lib.ListN.{length}
use Rattle.forms.specs.Strings.{number, string}
use Rattle.numbers.proofs.Adding.{scaled}
use Rattle.numbers.proofs.double_into.Given as goal

abbrev pub invariant-loop-i : goal.invariant-loop-i
invariant-loop-i l = (l.carry < 2) × (scaled 2 l.c l.i l.carry ≡ string (length l.initial.c) (2 * number l.initial.c))
