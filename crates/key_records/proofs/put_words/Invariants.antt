-- After j turns the bytes of the words below j stand behind n and the set.
-- Assumes nothing.
use mathlib.Core.Path.{◌≡◌}
use Prim.Native.Nat.{◌*◌}
use Rattle.forms.specs.Words.{bytes}
use Rattle.forms.proofs.Buffers.{put}
use Rattle.key_records.proofs.put_words.Given as goal

abbrev pub invariant-loop-j : goal.invariant-loop-j
invariant-loop-j l = l.d ≡ put 16 (8 * l.j) (bytes l.j l.ws) l.initial.d
