-- No, or what the comparison of the titles says.
-- Assumes nothing.
use mathlib.Core.Path.{◌∙◌}
use Rattle.page_listings.proofs.Listings.{mid_holds, title_refused, title_written}
use Rattle.page_listings.proofs.written_and_titled.Goals as goal

pub returns-then-refusal-ne0 : goal.returns-then-refusal-ne0
returns-then-refusal-ne0 c =
    let a = c.args in
    let one = c.write-refusal.ensures in record { same = title_refused a.store a.sealing a.tagging a.number a.day a.title.now a.start.now a.body.now a.mid.now one.number one.page c.if-refusal-ne0.true; page = mid_holds a.store a.sealing a.tagging a.number a.day a.title.now a.start.now a.body.now a.mid.now one.number one.page }

pub returns : goal.returns
returns c =
    let a = c.args in
    let one = c.write-refusal.ensures in record { same = c.equal.ensures ∙ title_written a.store a.sealing a.tagging a.number a.day a.title.now a.start.now a.body.now a.mid.now one.number one.page (c.well_formed.1.1.1.0.1, c.well_formed.1.1.1.1.0.1) c.if-refusal-ne0.false c.title.ensures; page = mid_holds a.store a.sealing a.tagging a.number a.day a.title.now a.start.now a.body.now a.mid.now one.number one.page }
