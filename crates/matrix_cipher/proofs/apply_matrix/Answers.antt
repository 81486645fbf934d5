-- A refusal leaves the destination; else the three phases are the line.
-- Assumes nothing.
use mathlib.Core.Path.{sym, ◌∙◌}
use Rattle.forms.proofs.Refusals.{refused_keeps}
use Rattle.labyrinth.specs.Working.{matrix_parts}
use Rattle.labyrinth.proofs.Sizes.{legal_size}
use Rattle.labyrinth.proofs.Operations.{block_taken, phases}
use Rattle.matrix_cipher.proofs.apply_matrix.Goals as goal

pub returns-then-number-ne0 : goal.returns-then-number-ne0
returns-then-number-ne0 c = record { number = c.block_refusal-number.ensures; block = refused_keeps _ _ _ c.if-number-ne0.true }

pub returns : goal.returns
unfolding matrix_parts
returns c =
    let a = c.args in
    let number = c.block_refusal-number.ensures in
    let none = c.if-number-ne0.false in
    let taken = block_taken a.n _ _ number none in record {
      number = sym none ∙ number;
      block = phases (matrix_parts a.s.now a.u.now a.m) a.n a.ks.now a.src.now a.dst.now _ taken (legal_size a.n taken.size)
          c.enter.ensures c.rounds-x.ensures
          c.exchange.ensures c.leave.ensures;
    }
