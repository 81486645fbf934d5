-- The substitution and the matrix are the published ones, so the line is E or U.
-- Assumes nothing.
use mathlib.Core.Path.{ap, ◌∙◌}
use Rattle.field.specs.Mixing.{matrix}
use Rattle.labyrinth.proofs.Agree.{published_matrix_agrees}
use Rattle.labyrinth.proofs.Operations.{block_way}
use Rattle.matrix_cipher.proofs.by_published.Goals as goal

pub returns : goal.returns
returns c =
    let a = c.args in
    let applied = c.apply_matrix.ensures in record {
      number = applied.number;
      block = block_way
          (published_matrix_agrees c.sbox-s.ensures c.sbox_inverse-u.ensures
          (c.matrix-m.ensures ∙ ap matrix c.row.ensures))
          a.back a.k.n a.k.words c.schedule-ks.ensures a.src.now a.dst.now applied.number applied.block;
    }
