-- A count of replacements is 0 or not.
-- Assumes nothing.
use mathlib.Core.Path.{◌≡◌, refl, sym, ap}
use Prim.Native.Nat.{ℕ, zero, suc}
use Rattle.registers.specs.Registers.{rule}
use Rattle.key_register.proofs.rule.Goals as goal

some : (n : ℕ) → (n ≡ 0 → ⊥) → 1 ≡ rule n
unfolding rule
some zero d = absurd (d refl)
some (suc n) d = refl

pub returns-then-followed-eq0 : goal.returns-then-followed-eq0
unfolding rule
returns-then-followed-eq0 c = sym (ap rule c.if-followed-eq0.true)

pub returns : goal.returns
returns c = some c.args.followed c.if-followed-eq0.false
