-- The number is the definition's; where it is 0, the words are those of the walk, and the merged table's word map is the article's.
-- Assumes nothing.
use Rattle.std.proofs.Common.{ℕ, List, sym, ap, ◌∙◌}
use Rattle.field.specs.Merged.{merged, lookup}
use Rattle.field.specs.Published.{table1, row}
use Rattle.field.proofs.Substitution.{table1_undo}
use Rattle.labyrinth.specs.Cipher.{article}
use Rattle.labyrinth.specs.Keys.{expanded_words}
use Rattle.labyrinth.specs.Refusals.{padded}
use Rattle.labyrinth.proofs.Agree.{lookup_agrees}
use Rattle.labyrinth.proofs.Refusals.{key_taken}
use Rattle.labyrinth.proofs.Expansion.{refused_is, taken_is}
use Rattle.expansion.proofs.expand_published.Goals as goal

pub returns-then-number-ne0 : goal.returns-then-number-ne0
returns-then-number-ne0 c = refused_is _ _ _ _ _ _ c.expand_refusal-number.ensures c.if-number-ne0.true c.refused.ensures

pub expand_by-requires : goal.expand_by-requires
expand_by-requires c = key_taken _ _ _ c.expand_refusal-number.ensures c.if-number-ne0.false

pub returns : goal.returns
unfolding article
returns c =
    let a = c.args in
    c.expand_by.ensures
    ∙ taken_is article.SM (lookup (merged row table1)) (lookup_agrees table1 row table1_undo.there) 0 a.n a.l a.key.now
    (sym c.expand_refusal-number.ensures ∙ c.if-number-ne0.false)
    (ap (λ (t : List ℕ). padded (expanded_words (lookup t) a.n a.l a.key.now)) c.merged_table-t.ensures)
