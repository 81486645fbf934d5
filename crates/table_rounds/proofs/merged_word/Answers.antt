-- Either form gives the byte's share.
-- Assumes nothing.
use Rattle.std.proofs.Common.{ap, ◌∙◌, arith}
use Rattle.forms.proofs.Words.{byte_is_lt}
use Rattle.labyrinth.specs.Working.{table_words}
use Rattle.labyrinth.proofs.Permutation.{share_eight, share_one}
use Rattle.table_rounds.proofs.merged_word.Goals as goal

pub overflow_add-result : goal.overflow_add-result
overflow_add-result c = omega (arith, byte_is_lt _ _ c.place.ensures)

pub offset_bounds-t-k : goal.offset_bounds-t-k
offset_bounds-t-k c = omega (arith, byte_is_lt _ _ c.place.ensures, c.requires.1 ∙ ap table_words c.if-eight.true)

pub bounds-t-k : goal.bounds-t-k
bounds-t-k c = omega (arith, byte_is_lt _ _ c.place.ensures, c.requires.1 ∙ ap table_words c.if-eight.true)

pub offset_bounds-t-place : goal.offset_bounds-t-place
offset_bounds-t-place c = omega (arith, byte_is_lt _ _ c.place-else-eight.ensures, c.requires.1 ∙ ap table_words c.if-eight.false)

pub bounds-t-place : goal.bounds-t-place
bounds-t-place c = omega (arith, byte_is_lt _ _ c.place-else-eight.ensures, c.requires.1 ∙ ap table_words c.if-eight.false)

pub returns-then-eight : goal.returns-then-eight
returns-then-eight c =
    let a = c.args in
    share_eight a.t.now a.k _ c.if-eight.true c.place.ensures

pub returns-else-eight : goal.returns-else-eight
returns-else-eight c =
    let a = c.args in
    share_one a.t.now a.k _ c.if-eight.false c.turn.ensures c.place-else-eight.ensures
