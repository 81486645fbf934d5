-- The words of what is given.
-- Assumes nothing.
use mathlib.Core.Path.{ap, ◌∙◌, refl}
use Rattle.forms.specs.Words.{words}
use Rattle.forms.proofs.Booleans.{when_chosen, when_spared}
use Rattle.groups.proofs.given_words.Goals as goal

pub returns-then-own : goal.returns-then-own
returns-then-own c =
    let a = c.args in
    c.group_words.ensures ∙ ap (words 8) (when_chosen a.dst.now a.src.now refl c.if-own.true)

pub returns-else-own : goal.returns-else-own
returns-else-own c =
    let a = c.args in
    c.group_words-else-own.ensures ∙ ap (words 8) (when_spared a.dst.now a.src.now refl c.if-own.false)
