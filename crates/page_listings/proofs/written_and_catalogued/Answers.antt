-- The writer's refusal, or the entry of what it wrote.
-- Assumes nothing.
use mathlib.Core.Path.{◌∙◌}
use Rattle.page_listings.proofs.Listings.{mid_holds, entry_refused, entry_written}
use Rattle.page_listings.proofs.written_and_catalogued.Goals as goal

pub returns-then-stopped : goal.returns-then-stopped
returns-then-stopped c =
    let a = c.args in
    let one = c.write-r.ensures in record { entry = c.refused.ensures ∙ entry_refused a.store a.sealing a.tagging a.number a.day a.title.now a.start.now a.body.now a.mid.now one.number one.page c.if-stopped.true; page = mid_holds a.store a.sealing a.tagging a.number a.day a.title.now a.start.now a.body.now a.mid.now one.number one.page }

pub returns : goal.returns
returns c =
    let a = c.args in
    let one = c.write-r.ensures in record { entry = entry_written a.store a.sealing a.tagging a.number a.day a.title.now a.start.now a.body.now a.mid.now one.number one.page (c.well_formed.1.1.1.0.1, c.well_formed.1.1.1.1.0.1) c.if-stopped.false c.catalogue.ensures; page = mid_holds a.store a.sealing a.tagging a.number a.day a.title.now a.start.now a.body.now a.mid.now one.number one.page }
