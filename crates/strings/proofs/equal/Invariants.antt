-- What differed before is gathered, and what is left decides the rest.
-- Assumes nothing.
use mathlib.Core.Path.{◌≡◌}
use lib.ListN.{length}
use Rattle.forms.specs.Strings.{same}
use Rattle.strings.proofs.Comparing.{compared}
use Rattle.strings.proofs.equal.Given as goal

abbrev pub invariant-loop-x : goal.invariant-loop-x
invariant-loop-x l =
    let i = l.x-iterator in
    (same l.a l.b ≡ compared l.different i.a.rest.now i.b.rest.now) × (length i.a.rest.now ≡ length i.b.rest.now)
