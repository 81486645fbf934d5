-- The substitution, and the row behind it.
-- Assumes nothing.
use mathlib.Core.Path.{◌≡◌, ap₂, ◌∙◌}
use Prim.Native.Nat.{◌+◌}
use lib.ListN.{length, length-append}
use borrow.Kind.Array.{good_length, e_int}
use mir.Syntax.{w8}
use Rattle.written_stores.proofs.Parts.{put_both}
use Rattle.written_stores.proofs.put_set.Goals as goal
use Rattle.written_stores.proofs.put_set.Goals.{Start}

long : (s : Start) → length s.args.s ≡ 256
long s = good_length (e_int w8) 256 s.args.s _ s.well_formed.1.1.0

short : (s : Start) → length s.args.g ≡ 8
short s = good_length (e_int w8) 8 s.args.g _ s.well_formed.1.1.1.0

pub returns : goal.returns
returns c =
    record { long = length-append c.args.s c.args.g ∙ ap₂ ◌+◌ (long (goal.at.returns c).Start) (short (goal.at.returns c).Start); set = put_both c.args.d.now c.args.s c.args.g c.args.at (long (goal.at.returns c).Start) (short (goal.at.returns c).Start) c.requires c.put_part.ensures c.put_part-2.ensures }
