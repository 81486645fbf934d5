-- A value that takes seconds to compute, and so stands where no edit checks it: an expansion and one block, by computation.
-- Assumes nothing.
use mathlib.Core.Path.{refl}
use Rattle.forms.specs.Lists.{tabulate, xor_sum}
use Rattle.forms.specs.Words.{byte, join, rotl, rotr, each_byte, words, bytes}
use Rattle.forms.specs.Strings.{xor_bytes, string}
use Rattle.field.specs.Field.{times_x, shift, mul}
use Rattle.field.specs.Substitution.{sub, sub_inv}
use Rattle.field.specs.Mixing.{element, matrix, dot, mix_by, mix}
use Rattle.field.specs.Published.{table1, row, constants}
use Rattle.labyrinth.specs.Blocks.{each, zip, load, store}
use Rattle.labyrinth.specs.Cipher.{parts_of, article, P, SL, F, sigma, IMix, IT, FT, round, rounds, EF}
use Rattle.labyrinth.specs.Keys.{half, register, delta, grow, expanded_words, order, E}
use Rattle.labyrinth.specs.Refusals.{padded}
use Rattle.modes.specs.KeyWrap.{wrap_step, wrap_steps, ICV1}
use Rattle.promise.specs.Values.{FirstStep}

pub first_step_holds : FirstStep
unfolding wrap_steps wrap_step ICV1 xor_bytes string tabulate xor_sum byte join rotl rotr each_byte words bytes times_x shift mul sub sub_inv element matrix dot mix_by mix table1 row constants each zip load store parts_of article P SL F sigma IMix IT FT round rounds EF half register delta grow expanded_words order E padded
first_step_holds = refl
