-- A refusal leaves the destination; else the three phases are the line.
-- Assumes nothing.
use mathlib.Core.Path.{refl, sym, ◌∙◌}
use Rattle.forms.proofs.Refusals.{refused_keeps}
use Rattle.labyrinth.specs.Working.{table_parts}
use Rattle.labyrinth.specs.Lent.{lent}
use Rattle.labyrinth.proofs.Operations.{block_taken, phases, lent_refused, lent_formless, lent_taken, lent_both}
use Rattle.table_cipher.proofs.map_block.Goals as goal

pub returns-then-number-ne0 : goal.returns-then-number-ne0
returns-then-number-ne0 c = record { number = lent_refused _ _ _ _ c.block_refusal-number.ensures c.if-number-ne0.true; block = refused_keeps _ _ _ c.if-number-ne0.true }

pub returns-then-not-is_lendable : goal.returns-then-not-is_lendable
returns-then-not-is_lendable c = record { number = lent_formless _ _ _ _ c.block_refusal-number.ensures c.if-number-ne0.false (sym c.is_lendable.ensures ∙ c.if-not-is_lendable.true); block = refl }

pub returns : goal.returns
unfolding table_parts lent
returns c =
    let a = c.args in
    let number = c.block_refusal-number.ensures in
    let none = c.if-number-ne0.false in
    let lendable = sym c.is_lendable.ensures ∙ c.if-not-is_lendable.false in
    let taken = block_taken a.n _ _ number none in record {
      number = lent_taken _ _ _ _ number none lendable;
      block = phases (table_parts a.s.now a.u.now a.t.now) a.n a.ks.now a.src.now a.dst.now _ taken (lent_both a.n _ taken.size lendable)
          c.enter.ensures c.rounds-h.ensures
          c.exchange.ensures c.leave.ensures;
    }
