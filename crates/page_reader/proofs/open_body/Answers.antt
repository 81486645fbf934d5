-- The gathered blocks are the record's, and are opened after its start block.
-- Assumes nothing.
use mathlib.Core.Path.{◌≡◌, refl, ◌∙◌}
use Prim.Native.Nat.{◌≤◌}
use native.Mathlib.Omega.{arith}
use lib.ListN.{length}
use Rattle.pages.specs.Pages.{parts}
use Rattle.pages.proofs.Layouts.{record_length_lem}
use Rattle.page_reader.proofs.Readings.{sealed_gathered, body_opened}
use Rattle.page_reader.proofs.open_body.Goals as goal
use Rattle.page_reader.proofs.open_body.Goals.{After-gather, Start}

-- a record has its commands
long : (s : Start) → 77 ≤ length s.args.bytes.now
long s = omega (arith, record_length_lem s.args.bytes.now s.requires.2)

pub overflow_sub-at : goal.overflow_sub-at
overflow_sub-at c = omega (arith, long (goal.at.overflow_sub-at c).Start)

pub slice_bounds-gather-count : goal.slice_bounds-gather-count
slice_bounds-gather-count c = omega (arith, long (goal.at.slice_bounds-gather-count c).Start)

pub slice_bounds-gather-start : goal.slice_bounds-gather-start
slice_bounds-gather-start c = omega (arith, long (goal.at.slice_bounds-gather-start c).Start)

-- the sealed blocks
sealed : (c : After-gather) → c.gather.new.d ≡ (parts c.args.bytes.now).sealed
sealed c =
    sealed_gathered c.args.bytes.now c.requires.2 c.args.dst.now c.requires.3 c.gather.ensures.number c.gather.ensures.blocks

pub slice_bounds-open-end : goal.slice_bounds-open-end
slice_bounds-open-end c = omega (arith, long (goal.at.slice_bounds-open-end c).Start)

pub returns : goal.returns
returns c =
    let a = c.args in
    let call = c.open.ensures in
    body_opened a.store a.k c.requires.0 c.requires.1 a.bytes.now c.requires.2 call.number call.run refl (sealed (goal.at.returns c).After-gather) (c.gather.auto.d ∙ c.requires.3)
