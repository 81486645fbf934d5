-- The message is all bytes before 1F, and the given tag is what stands behind it.
-- Assumes nothing.
use mathlib.Core.Path.{sym}
use Prim.Native.Nat.{◌≤◌}
use native.Mathlib.Omega.{arith}
use lib.ListN.{length}
use lib.Seq.{length-take-le}
use Rattle.pages.proofs.Layouts.{record_length_lem}
use Rattle.page_reader.proofs.Readings.{tag_verified}
use Rattle.page_reader.proofs.is_tagged.Goals as goal
use Rattle.page_reader.proofs.is_tagged.Goals.{Start}

-- a record has its tag
long : (s : Start) → 77 ≤ length s.args.bytes.now
long s = omega (arith, record_length_lem s.args.bytes.now s.requires.2)

pub overflow_sub-at : goal.overflow_sub-at
overflow_sub-at c = omega (arith, long (goal.at.overflow_sub-at c).Start)

pub overflow_add-behind : goal.overflow_add-behind
overflow_add-behind c = omega (arith, long (goal.at.overflow_add-behind c).Start)

pub slice_bounds-verify-end : goal.slice_bounds-verify-end
slice_bounds-verify-end c = sym (length-take-le _ c.args.bytes.now (omega arith))

pub slice_bounds-verify-count : goal.slice_bounds-verify-count
slice_bounds-verify-count c = omega (arith, long (goal.at.slice_bounds-verify-count c).Start)

pub slice_bounds-verify-start : goal.slice_bounds-verify-start
slice_bounds-verify-start c = omega (arith, long (goal.at.slice_bounds-verify-start c).Start)

pub returns : goal.returns
returns c =
    let a = c.args in
    tag_verified a.store a.k c.requires.0 c.requires.1 a.bytes.now c.requires.2 (λ i. omega (arith, c.shared_slice_known-1.given i)) c.verify-v.ensures
