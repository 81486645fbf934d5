-- The first i words are put, and the others still stand.
-- Assumes nothing.
use mathlib.Core.Path.{◌≡◌}
use mathlib.Core.List.{◌++◌}
use Prim.Native.Nat.{◌*◌}
use lib.ListN.{length, take, drop}
use Rattle.forms.specs.Words.{bytes}
use Rattle.forms.specs.Strings.{xor_bytes}
use Rattle.groups.proofs.put_words.Given as goal

abbrev pub invariant-loop-i : goal.invariant-loop-i
invariant-loop-i l = (length l.dst ≡ length l.initial.dst) × (l.dst ≡ take (8 * l.i) (xor_bytes (bytes 8 l.x) l.mask) ++ drop (8 * l.i) l.initial.dst)
