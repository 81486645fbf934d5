-- The first that passes is one of the entries.
-- Assumes nothing.
use mathlib.Core.Path.{◌≡◌, sym, ap₂, ◌∙◌}
use lib.Dec.{ltb}
use lib.ListN.{length}
use Rattle.forms.specs.Lists.{when}
use Rattle.forms.proofs.Search.{any_first}
use Rattle.registers.specs.Registers.{blank, held, has_number, replaces_number}
use Rattle.registers.proofs.Entries.{held_long}
use Rattle.key_register.proofs.some.Goals as goal
use Rattle.key_register.proofs.some.Goals.{Start}

long : (s : Start) → length s.args.r.entries ≡ 64
long s = s.well_formed.0.1.1.1.0.1.0.1

pub returns : goal.returns
returns c =
    let a = c.args in
    ap₂ ltb c.first_from.ensures (c.size.ensures ∙ sym (held_long a.r (long (goal.at.returns c).Start)))
    ∙ sym (any_first (when a.replaced (replaces_number a.number) (has_number a.number)) (held a.r) blank)
