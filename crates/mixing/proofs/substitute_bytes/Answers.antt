-- The word of the eight bytes, each substituted.
-- Assumes nothing.
use Rattle.std.proofs.Common.{rules}
use mathlib.Core.Path.{◌≡◌, ◌∙◌}
use Rattle.forms.specs.Lists.{tabulate}
use Rattle.forms.specs.Words.{byte, each_byte}
use Rattle.word_bytes.proofs.Words.{le_bytes}
use Rattle.field.specs.Substitution.{sub}
use Rattle.arithmetic.proofs.Eight.{joined_eight}
use Rattle.mixing.proofs.substitute_bytes.Goals as goal

pub returns : goal.returns
unfolding each_byte sub tabulate
returns c =
    let w = c.args.w in
    let bytes : c.to_le_bytes.result ≡ tabulate 8 (byte w) = c.to_le_bytes.ensures ∙ le_bytes w in
    c.from_le_bytes.ensures ∙ joined_eight (λ i. sub c.args.s.now (byte w i)) c.map.result (search (rules, bytes))
