-- Each step is what its callee gives.
-- Assumes nothing.
use Rattle.std.proofs.Common.{◌≡◌, ◌%◌, ◌∙◌, ap₂, arith}
use Rattle.forms.specs.Words.{rotl}
use Rattle.wide_blocks.proofs.word_in.Goals as goal

pub returns : goal.returns
returns c =
    let e : c.args.turn % 64 ≡ c.args.turn = omega (arith, c.requires) in
    c.rotate_left.ensures ∙ ap₂ rotl c.substitute.ensures e
