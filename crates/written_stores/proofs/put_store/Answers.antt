-- After i turns the sets below i stand there; then what is taken.
-- Assumes nothing.
use mathlib.Core.Path.{◌≡◌, refl, ◌∙◌}
use Prim.Native.Nat.{◌-◌}
use native.Mathlib.Omega.{arith}
use lib.ListN.{length}
use borrow.Author.Rules.{rules}
use Rattle.buffers.proofs.Words.{with_word_lem}
use Rattle.records.specs.Records.{set_bytes}
use Rattle.forms.proofs.Whole.{not_written}
use Rattle.written_stores.proofs.Parts.{filled_none, filled_more, filled_store}
use Rattle.written_stores.proofs.put_store.Goals as goal

pub returns-then-d-ne1072 : goal.returns-then-d-ne1072
returns-then-d-ne1072 c = not_written _ _ 1072 c.if-d-ne1072.true

pub loop-i-init : goal.loop-i-init
loop-i-init c = (search rules, refl, filled_none _ _)

pub loop-i-preserved : goal.loop-i-preserved
unfolding set_bytes
loop-i-preserved c =
    let v = c.loop-i in
    (search rules, c.put_set.auto.d ∙ v.invariant.1, filled_more _ _ v.i (omega arith) v.invariant.2 c.put_set.ensures.long c.put_set.ensures.set)

pub returns : goal.returns
returns c =
    let v = c.loop-i in
    let long : length c.args.d.now ≡ 1072 = c.if-d-ne1072.false in
    filled_store c.args.st c.args.d.now long (omega arith) v.invariant.2 (c.store_word.ensures ∙ with_word_lem _ _ _ (omega (arith, v.invariant.1, long)))
    (c.store_word-2.ensures ∙ with_word_lem _ _ _ (omega (arith, c.store_word.auto.d, v.invariant.1, long)))
