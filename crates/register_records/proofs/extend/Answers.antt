-- The length, or a full register, or the count and the entry put.
-- Assumes nothing.
use native.Mathlib.Omega.{arith}
use borrow.Author.Rules.{rules}
use Rattle.register_records.proofs.Parts.{other_length, full, put_behind_others}
use Rattle.register_records.proofs.extend.Goals as goal

pub returns-then-d-ne2824 : goal.returns-then-d-ne2824
returns-then-d-ne2824 c = other_length c.args.d.now _ c.if-d-ne2824.true

pub returns-then-n-ge64 : goal.returns-then-n-ge64
returns-then-n-ge64 c =
    full c.args.d.now c.if-d-ne2824.false _ (omega arith)

pub returns : goal.returns
returns c =
    put_behind_others c.args.d.now c.if-d-ne2824.false (λ i. search rules) c.args.e
    c.load_word-n.ensures (omega arith) c.store_word.ensures c.lay.ensures
