-- The halves of the block, and the number into the first.
-- Assumes nothing.
use mathlib.Core.Path.{ap, ◌∙◌}
use mathlib.Core.List.{List}
use Prim.Native.Nat.{ℕ}
use Rattle.forms.specs.Strings.{xor_bytes, string}
use Rattle.key_wrap_steps.proofs.wrap_step.Goals as goal

pub count_into-requires : goal.count_into-requires
count_into-requires c = let call = c.map_halves in call.auto.a ∙ c.requires.0

pub returns : goal.returns
returns c =
    let call = c.map_halves in
    record { first = c.count_into.ensures ∙ ap (λ (y : List ℕ). xor_bytes y (string 8 c.args.number)) call.ensures.first; second = call.ensures.second }
