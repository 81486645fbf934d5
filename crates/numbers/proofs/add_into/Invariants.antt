-- The carry stands before byte i: the bytes before it still stand, those from it on are done.
-- Assumes nothing.
use mathlib.Core.Path.{◌≡◌}
use Prim.Native.Nat.{◌+◌}
use lib.ListN.{length, take}
use Rattle.forms.specs.Strings.{number, string}
use Rattle.numbers.proofs.Adding.{added}
use Rattle.numbers.proofs.add_into.Given as goal

abbrev pub invariant-loop-i : goal.invariant-loop-i
invariant-loop-i l =
    (take l.i l.c ≡ take l.i l.initial.c) × (added l.c l.i l.carry ≡ string (length l.initial.c) (number l.initial.c + l.v))
