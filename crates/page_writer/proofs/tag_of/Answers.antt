-- A tag that is not refused.
-- Assumes nothing.
use mathlib.Core.Path.{◌∙◌}
use native.Mathlib.Omega.{arith}
use lib.ListN.{replicate}
use Rattle.labyrinth.specs.Keys.{E}
use Rattle.modes.specs.Cmac.{tag}
use Rattle.labyrinth.proofs.Refusals.{under_loaded}
use Rattle.sets.specs.Sets.{parts_in}
use Rattle.modes.proofs.Refusals.{cmac_iff, cmac_one}
use Rattle.keyed_pages.specs.Keyed.{tag_under}
use Rattle.page_writer.proofs.Puts.{done}
use Rattle.page_writer.proofs.tag_of.Goals as goal

pub returns : goal.returns
unfolding tag_under
returns c =
    let k = c.make in
    let g = c.args in
    done (tag (E (parts_in g.store g.k.set) g.k.n g.k.words) 16 g.message.now) (replicate 16 0) k.ensures.number
    (under_loaded g.k.n _ _ (cmac_one g.k.n 16) c.requires.1 ∙ (cmac_iff g.k.n 16).1 (c.requires.0, omega arith, omega arith)) k.ensures.tag
