-- After b turns the word has the bytes below b, each from its place.
-- Assumes nothing.
use Rattle.std.proofs.Common.{◌≡◌, ℕ, ◌+◌, take, sym, ap, ◌∙◌, mod-lt, arith}
use Rattle.forms.specs.Words.{byte}
use Rattle.forms.specs.Lists.{words_from}
use Rattle.forms.proofs.Words.{byte_is_lt, joined_none, joined_more, joined_end}
use Rattle.labyrinth.specs.Blocks.{plus, zip}
use Rattle.labyrinth.proofs.Permutation.{get_or_P}
use Rattle.labyrinth.proofs.Rounds.{summed}
use Rattle.matrix_rounds.proofs.perm_word.Goals as goal

pub loop-b-init : goal.loop-b-init
loop-b-init c = joined_none _

pub loop-b-preserved : goal.loop-b-preserved
loop-b-preserved c =
    let l = c.loop-b in
    let a = c.args in
    let v = c.from-v.ensures ∙ c.byte_at.ensures in
    joined_more l.b _ (omega arith) (byte_is_lt _ _ v) (v ∙ ap (λ (w : ℕ). byte w l.b) (summed a.n a.at a.x.now a.ks.now _ (mod-lt (a.j + l.b) c.requires.0.pos))) l.invariant

pub returns : goal.returns
returns c =
    let l = c.loop-b in
    let a = c.args in
    let e : l.b ≡ 8 = omega arith in
    joined_end _ e l.invariant ∙ sym (get_or_P a.n c.requires.0 (zip a.n plus (take a.n a.x.now) (words_from a.n a.at a.ks.now)) a.j c.requires.2)
