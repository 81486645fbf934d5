-- After i turns the half-blocks below i are laid.
-- Assumes nothing.
use mathlib.Core.Path.{◌≡◌}
use Prim.Native.Nat.{◌*◌}
use lib.ListN.{replicate}
use Rattle.forms.specs.Lists.{tabulate}
use Rattle.forms.proofs.Buffers.{put}
use Rattle.labyrinth.proofs.Schedule.{laid_word}
use Rattle.schedule.proofs.lay_all.Given as goal

abbrev pub invariant-loop-i : goal.invariant-loop-i
invariant-loop-i l = l.ks ≡ put 0 (l.i * l.n) (tabulate (l.i * l.n) (laid_word l.n l.words l.back)) (replicate 80 0)
