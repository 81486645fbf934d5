-- After j turns the words below j of both halves are laid.
-- Assumes nothing.
use Rattle.std.proofs.Common.{◌<◌, sym, ◌∙◌, arith}
use Rattle.forms.specs.Words.{rotl}
use Rattle.labyrinth.proofs.Blocks.{get_or_each}
use Rattle.group_transforms.proofs.Ends.{laid_more, laid_all}
use Rattle.group_transforms.proofs.laid.Goals as goal

pub loop-j-preserved : goal.loop-j-preserved
loop-j-preserved g c =
    let v = c.loop-j in
    let h : v.j < 4 = omega arith in
    laid_more _ c.requires _ v.j h (c.rotate_left.ensures ∙ sym (get_or_each 4 (λ w. rotl w 2) _ v.j h))
    (c.rotate_left-in-loop-j.ensures ∙ sym (get_or_each 4 (λ w. rotl w 62) _ v.j h)) v.invariant

pub returns : goal.returns
returns g c = laid_all _ c.requires _ (omega arith) c.loop-j.invariant
