-- What is given, as words, mapped and put under the mask.
-- Assumes nothing.
use mathlib.Core.Path.{sym, ◌∙◌}
use Rattle.forms.proofs.EachBlock.{read_length}
use Rattle.groups.proofs.Turns.{side_made}
use Rattle.groups.proofs.side_by_side.Goals as goal

pub returns : goal.returns
returns c =
    let a = c.args in
    side_made a.n c.requires.0 a.t.now a.s.now a.u.now a.ks.now _ a.mask.now
    (read_length a.own a.dst.now a.src.now (c.requires.3 ∙ sym c.requires.1) ∙ c.requires.1) c.given_words-x.ensures c.group.ensures c.put_words.ensures
