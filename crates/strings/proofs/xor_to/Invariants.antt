-- The first i bytes are the XOR, and the others still stand.
-- Assumes nothing.
use mathlib.Core.Path.{◌≡◌}
use mathlib.Core.List.{◌++◌}
use lib.ListN.{take, drop}
use Rattle.forms.specs.Strings.{xor_bytes}
use Rattle.strings.proofs.xor_to.Given as goal

abbrev pub invariant-loop-i : goal.invariant-loop-i
invariant-loop-i l = l.d ≡ take l.i (xor_bytes l.a l.b) ++ drop l.i l.initial.d
