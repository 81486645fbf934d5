-- The doubled number, and 87 into its last byte where the first has its highest bit.
-- Assumes nothing.
use mathlib.Core.Path.{◌≡◌, sym, ap, ◌∙◌}
use mathlib.Core.List.{List}
use Prim.Native.Nat.{ℕ, ◌*◌}
use lib.ListN.{length}
use borrow.Author.Rules.{rules}
use Rattle.forms.specs.Strings.{xor_bytes, number, string}
use Rattle.forms.proofs.Strings.{length_string, xor_last}
use Rattle.modes.proofs.Doubling.{doubled_low, doubled_high}
use Rattle.masks.proofs.next_mask.Goals as goal
use Rattle.masks.proofs.next_mask.Goals.{After-double_into}

-- what is handed in is a block, doubled as a number
twice : (c : After-double_into) → c.double_into.new.c ≡ string 16 (2 * number c.args.x)
twice c = let long : length c.args.x ≡ 16 = search rules in c.double_into.ensures ∙ ap (λ (k : ℕ). string k (2 * number c.args.x)) long

pub returns-then-x-ge128 : goal.returns-then-x-ge128
returns-then-x-ge128 c =
    let t = twice (goal.at.returns-then-x-ge128 c).After-double_into in
    xor_last 15 0x87 c.double_into.new.c (ap length t ∙ length_string 16 (2 * number c.args.x)) (search rules)
    ∙ ap (λ (y : List ℕ). xor_bytes y (string 16 0x87)) t
    ∙ sym (doubled_high c.args.x (search rules) (λ i. search rules) c.if-x-ge128.true)

pub returns-else-x-ge128 : goal.returns-else-x-ge128
returns-else-x-ge128 c =
    twice (goal.at.returns-else-x-ge128 c).After-double_into ∙ sym (doubled_low c.args.x (search rules) (λ i. search rules) c.if-x-ge128.false)
