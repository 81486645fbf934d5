-- The bytes with their weights.
-- Assumes nothing.
use native.Mathlib.Omega.{arith}
use Rattle.forms.specs.Words.{join}
use Rattle.pages.specs.Pages.{four_byte_number}
use Rattle.catalogue.proofs.four_byte_number.Goals as goal

pub returns : goal.returns
unfolding four_byte_number join
returns c = omega (arith, c.wide-d.ensures.same, c.wide-c.ensures.same, c.wide-b.ensures.same, c.wide-a.ensures.same)
