-- After j turns the first j words of both halves are the new ones.
-- Assumes nothing.
use Rattle.std.proofs.Common.{◌≡◌, ℕ, refl, ap, ◌∙◌, le_of_eq, arith, take_all}
use Rattle.forms.specs.Words.{each_byte}
use Rattle.field.specs.Substitution.{sub}
use Rattle.field.specs.Mixing.{mix_by}
use Rattle.labyrinth.specs.Blocks.{plus}
use Rattle.labyrinth.proofs.Blocks.{length_zip}
use Rattle.labyrinth.proofs.Rounds.{turned_none, turned_more, turned_all}
use Rattle.matrix_rounds.proofs.round.Goals as goal

pub loop-j-init : goal.loop-j-init
loop-j-init c = turned_none _ _ _ _ _

pub perm_word-requires : goal.perm_word-requires
perm_word-requires c = let p = c.requires in (p.0, p.1, omega arith)

pub loop-j-preserved : goal.loop-j-preserved
loop-j-preserved c =
    let l = c.loop-j in
    let k = c.constants-c in
    let a = c.args in
    turned_more _ _ _ _ _ l.j (omega arith) (omega arith) refl k.ensures
    (c.mix_by-w.ensures ∙ ap (mix_by a.m) (c.substitute_bytes.ensures ∙ ap (each_byte (sub a.s.now)) c.perm_word.ensures))
    l.invariant

pub returns : goal.returns
returns c =
    let n : ℕ = c.args.n in
    let e : c.loop-j.j ≡ n = omega arith in
    turned_all _ n _ _ _ _ (omega arith) (omega arith) (take_all n _ (le_of_eq (length_zip n plus _ _))) e c.loop-j.invariant
