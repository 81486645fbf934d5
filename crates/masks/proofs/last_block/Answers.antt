-- The padded last part under the mask that its length asks for.
-- Assumes nothing.
use mathlib.Core.Path.{◌≡◌, ap, ◌∙◌}
use mathlib.Core.List.{List, ◌++◌}
use Prim.Native.Nat.{ℕ}
use native.Mathlib.Omega.{arith}
use lib.ListN.{length, take, drop, replicate}
use Rattle.forms.specs.Strings.{xor_bytes}
use Rattle.strings.proofs.Laying.{xor_whole}
use Rattle.modes.specs.Cmac.{doubled, pad}
use Rattle.modes.proofs.Cmac.{length_doubled, length_padded, last_whole, last_short}
use Rattle.masks.proofs.last_block.Goals as goal
use Rattle.masks.proofs.last_block.Goals.{then-whole, else-whole}

-- a mask that was made, laid over the block that was
under : (mask last : List ℕ) {k b r : List ℕ} → length mask ≡ 16 → k ≡ mask → b ≡ take 16 (pad last) → r ≡ take 16 (xor_bytes k b) ++ drop (length (xor_bytes k b)) (replicate 16 0)
    → r ≡ xor_bytes mask (take 16 (pad last))
under mask last {k} {b} l e p w =
    xor_whole k (take 16 (pad last)) (replicate 16 0) (omega (arith, ap length e, length_padded last)) (omega (arith, ap length e)) w p
    ∙ ap (λ (x : List ℕ). xor_bytes x (take 16 (pad last))) e

pub returns : goal.returns
returns c =
    let last = c.args.last.now in
    let m₁ = doubled c.args.l in
    let m₂ = doubled m₁ in
    let e₁ = c.next_mask-k1.ensures in
    let b = c.padded-block.ensures in
    let x = c.xor_to.ensures in
    elim c.if-whole.branch [
      | then-whole w ↦ under m₁ last (length_doubled c.args.l) (w.mask-is ∙ e₁) b x ∙ last_whole m₁ m₂ last w.if-whole.true
      | else-whole w ↦ under m₂ last (length_doubled m₁) (w.mask-is ∙ c.next_mask-k2.ensures ∙ ap doubled e₁) b x ∙ last_short m₁ m₂ last (length_doubled m₁) w.if-whole.false
    ]
