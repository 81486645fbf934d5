-- The last byte goes up by 1, or wraps.
-- Assumes nothing.
use mathlib.Core.Path.{◌∙◌}
use native.Mathlib.Omega.{arith}
use lib.ListN.{length-set}
use Rattle.ctr_lent.proofs.Counting.{last_more, last_wraps}
use Rattle.ctr_lent.proofs.next_last.Goals as goal

pub shape_of-c-then-k-eq255 : goal.shape_of-c-then-k-eq255
shape_of-c-then-k-eq255 c = c.add_into.auto.c ∙ simp length-set

pub returns-then-k-eq255 : goal.returns-then-k-eq255
returns-then-k-eq255 c = last_wraps c.args.c.now c.requires c.args.k (omega arith) c.add_into.ensures

pub returns : goal.returns
returns c = last_more c.args.c.now c.requires (λ i. omega (arith, c.slice_known-1.given i)) c.args.k (omega arith)
