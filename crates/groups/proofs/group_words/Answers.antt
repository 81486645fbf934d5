-- The words below i have been read.
-- Assumes nothing.
use mathlib.Core.Path.{refl, ◌∙◌}
use Prim.Native.Nat.{◌*◌}
use native.Mathlib.Omega.{arith}
use Rattle.forms.proofs.Lists.{replaced_none, replaced_more}
use Rattle.buffers.proofs.Words.{word_at_lem}
use Rattle.groups.proofs.Words.{words_taken}
use Rattle.groups.proofs.group_words.Goals as goal

pub loop-i-init : goal.loop-i-init
loop-i-init c = (refl, replaced_none _ _)

pub loop-i-preserved : goal.loop-i-preserved
loop-i-preserved c =
    let v = c.loop-i in
    let a = c.args in
    (v.invariant.0, replaced_more _ _ v.i (omega arith) (c.load_word.ensures ∙ word_at_lem a.s.now (8 * v.i) (omega arith)) v.invariant.1)

pub returns : goal.returns
returns c =
    let v = c.loop-i in
    words_taken c.args.s.now _ v.invariant.0 (omega arith) v.invariant.1
