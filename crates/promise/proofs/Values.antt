-- The starred values hold, all of them together, by computation.
-- Assumes nothing.
use mathlib.Core.Path.{refl}
use Rattle.forms.specs.Lists.{tabulate, xor_sum}
use Rattle.forms.specs.Words.{byte, join, rotl, each_byte, words, bytes}
use Rattle.forms.specs.Strings.{number, string}
use Rattle.field.specs.Field.{times_x, shift, mul, power}
use Rattle.field.specs.Substitution.{sub, sub_inv}
use Rattle.field.specs.Mixing.{element, matrix, dot, mix_by, mix}
use Rattle.field.specs.Published.{table1, row, constants}
use Rattle.labyrinth.specs.Blocks.{each, zip}
use Rattle.labyrinth.specs.Cipher.{parts_of, article, P, SL, sigma, IMix}
use Rattle.labyrinth.specs.Keys.{delta}
use Rattle.modes.specs.Ctr.{counter}
use Rattle.promise.specs.Values.{from, values, Holds}

pub values_hold : Holds values
unfolding Holds values from tabulate xor_sum byte join rotl each_byte times_x shift mul power sub sub_inv element matrix dot mix_by mix table1 row constants each zip words bytes parts_of article P SL sigma IMix delta number string counter
values_hold = (refl, (refl, (refl, (refl, (refl, (refl, (refl, (refl, (refl, (refl, (refl, (refl, (refl, (refl, (refl, (refl, (refl, (refl, (refl, tt)))))))))))))))))))
