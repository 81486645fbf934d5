-- What was passed by doesn't pass the test.
-- Assumes nothing.
use mathlib.Core.Path.{◌≡◌}
use mathlib.Core.Bool.{Bool}
use Prim.Native.Nat.{ℕ, ◌-◌}
use lib.ListN.{drop}
use Rattle.forms.specs.Lists.{when, first_from}
use Rattle.registers.specs.declared.Entry.{Entry}
use Rattle.registers.specs.Registers.{held, has_number, replaces_number}
use Rattle.key_register.proofs.first_from.Given as goal

-- what is searched for
abbrev pub test : ℕ → Bool → Entry → Bool
test number replaced = when replaced (replaces_number number) (has_number number)

abbrev pub invariant-loop-i : goal.invariant-loop-i
invariant-loop-i l = first_from (test l.number l.replaced) l.from (drop l.from (held l.r)) ≡ first_from (test l.number l.replaced) l.i (drop l.i (held l.r))

abbrev pub decreases-loop-i : goal.decreases-loop-i
decreases-loop-i l = l.n - l.i
