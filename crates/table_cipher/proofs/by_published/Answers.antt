-- What is prepared gives E or U.
-- Assumes nothing.
use Rattle.labyrinth.proofs.Lent.{article_block_by_one}
use Rattle.table_cipher.proofs.by_published.Goals as goal

pub returns : goal.returns
returns c =
    let a = c.args in
    let mapped = c.map_block.ensures in
    let both = article_block_by_one
    (record {
      table = c.table-t.ensures;
      substitution = c.substitution-s.ensures;
      inverse = c.inverse-u.ensures;
      subkeys = c.schedule-ks.ensures;
    })
    a.src.now a.dst.now mapped.number mapped.block in record { number = both.0; block = both.1 }
