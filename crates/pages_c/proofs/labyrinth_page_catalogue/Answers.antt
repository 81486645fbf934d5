-- The catalogue's answer, part by part.
-- Assumes nothing.
use Rattle.pages_c.proofs.LentPages.{catalogued}
use Rattle.pages_c.proofs.labyrinth_page_catalogue.Goals as goal

pub returns : goal.returns
returns c = let both = catalogued c.args.bytes.now c.catalogue-e.ensures c.title_place.ensures in record { number = both.0; page = both.1.0; day = both.1.1.0; blocks = both.1.1.1.0; title = both.1.1.1.1 }
