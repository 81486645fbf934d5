-- The bytes that pass the test, counted.
-- Assumes nothing.
use Rattle.std.proofs.Common.{rules, tests}
use Rattle.std.proofs.lemmas.Iterator.{YieldsList-from_slice}
use Rattle.std.proofs.lemmas.Iterator.Consumers.{YieldsList-from_filter, count_from_yields_List}
use Rattle.std.proofs.lemmas.List.Sums.{length-filter}
use Rattle.std.specs.List.{count_by}
use mathlib.Core.Path.{ap, ◌∙◌}
use mathlib.Core.Bool.{Bool, not}
use Prim.Native.Nat.{ℕ}
use lib.Dec.{eqb}
use Rattle.word_bytes.proofs.Words.{le_bytes}
use Rattle.judge.specs.Judge.{active_bytes}
use Rattle.counts.proofs.Counting.{counted}
use Rattle.counts.proofs.active_bytes.Goals as goal

pub returns : goal.returns
unfolding active_bytes
returns c =
    let bytes = c.to_le_bytes.result in
    let test : ℕ → Bool = λ b. not (eqb b 0) in
    count_from_yields_List c.filter.result _ c.count.ensures.ran
    (YieldsList-from_filter _ test (YieldsList-from_slice bytes (cc)) c.filter.ensures.closure (λ x b q k. search (rules, tests)))
    ∙ length-filter test bytes ∙ ap (count_by test) (c.to_le_bytes.ensures ∙ le_bytes _) ∙ counted _
