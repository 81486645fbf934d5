-- After j turns the bytes of the words below j have gone out.
-- Assumes nothing.
use Rattle.std.proofs.Common.{◌≡◌, ◌*◌, length}
use Rattle.forms.specs.Words.{bytes}
use Rattle.forms.proofs.Buffers.{put}
use Rattle.field.specs.Substitution.{sub}
use Rattle.labyrinth.proofs.Ends.{out_half}
use Rattle.transforms.proofs.key_out.Given as goal

abbrev pub invariant-loop-j : goal.invariant-loop-j
invariant-loop-j l = (length l.dst ≡ length l.initial.dst) × (l.dst ≡ put l.at (8 * l.j) (bytes l.j (out_half (sub l.u) l.n l.ks l.k l.turn l.x)) l.initial.dst)
