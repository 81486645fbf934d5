-- An empty part, or the title's bytes.
-- Assumes nothing.
use mathlib.Core.Path.{◌≡◌, sym, ap, ◌∙◌}
use native.Mathlib.Omega.{arith}
use Rattle.catalogue.specs.declared.Entry.{Entry}
use Rattle.catalogue.specs.Catalogue.{entry}
use Rattle.catalogue.proofs.Catalogues.{title_none, title_there, title_long}
use Rattle.catalogue.proofs.title.Goals as goal
use Rattle.catalogue.proofs.title.Goals.{Else-e-ne0}

pub returns-then-e-ne0 : goal.returns-then-e-ne0
returns-then-e-ne0 c = let a = c.args in title_none a.bytes.now (λ z. c.if-e-ne0.true (ap (λ (x : Entry). x.number) c.catalogue-e.ensures ∙ z))

zero : (c : Else-e-ne0) → (entry c.args.bytes.now).number ≡ 0
zero c = sym (ap (λ (x : Entry). x.number) c.catalogue-e.ensures) ∙ c.if-e-ne0.false

pub slice_bounds-result-end-2 : goal.slice_bounds-result-end-2
slice_bounds-result-end-2 c = omega (arith, title_long c.args.bytes.now (zero c))

pub returns : goal.returns
returns c = title_there c.args.bytes.now (zero (goal.at.returns c).Else-e-ne0)
