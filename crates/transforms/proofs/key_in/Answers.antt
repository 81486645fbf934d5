-- After j turns the words below j have come in.
-- Assumes nothing.
use Rattle.std.proofs.Common.{◌≡◌, ℕ, ◌+◌, ◌*◌, ◌<◌, get_or, ap, ◌∙◌, ap₂, mod-eq_of_lt, arith}
use Rattle.forms.specs.Words.{rotl, each_byte}
use Rattle.buffers.proofs.Words.{word_at_lem}
use Rattle.field.specs.Substitution.{sub}
use Rattle.labyrinth.specs.Blocks.{plus}
use Rattle.labyrinth.specs.Working.{four_words}
use Rattle.labyrinth.proofs.FourWords.{four_none, four_more, four_end}
use Rattle.labyrinth.proofs.Ends.{in_half_lem}
use Rattle.transforms.proofs.key_in.Goals as goal

pub loop-j-init : goal.loop-j-init
loop-j-init c = four_none _

pub loop-j-preserved : goal.loop-j-preserved
loop-j-preserved c =
    let v = c.loop-j in
    let a = c.args in
    let h : a.turn < 64 = omega arith in
    four_more _ v.j (omega arith) v.invariant
    (c.rotate_left.ensures
    ∙ ap₂ rotl
    (c.substitute_bytes.ensures
    ∙ ap (each_byte (sub a.s.now))
    (ap (λ (x : ℕ). plus x (get_or a.ks.now (a.k + v.j) 0)) (c.load_word.ensures ∙ word_at_lem a.src.now (a.at + 8 * v.j) (omega arith))))
    (mod-eq_of_lt h))

pub returns : goal.returns
returns c =
    let v = c.loop-j in
    let a = c.args in
    let e : v.j ≡ a.n = omega arith in
    four_end _ e v.invariant ∙ ap four_words (in_half_lem (sub a.s.now) a.n a.ks.now a.k a.turn a.src.now a.at)
