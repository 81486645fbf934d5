-- The word has room, since a byte is below 256.
-- Assumes nothing.
use mathlib.Core.Path.{ap, ◌∙◌}
use Prim.Native.Nat.{ℕ, ◌+◌, ◌-◌, ◌*◌}
use native.Mathlib.Omega.{arith}
use lib.ListN.{get_or}
use Rattle.forms.specs.Words.{join}
use Rattle.buffers.proofs.Words.{word_at_lem}
use Rattle.spacing.proofs.shifted.Goals as goal

pub returns : goal.returns
returns c =
    c.load_word.ensures
    ∙ word_at_lem c.args.s.now _ (omega arith)
    ∙ ap (λ (x : ℕ). join 8 (λ b. get_or c.args.s.now (8 * x + 7 - c.args.k + b) 0)) (c.from-byte.ensures ∙ c.byte_at.ensures)
