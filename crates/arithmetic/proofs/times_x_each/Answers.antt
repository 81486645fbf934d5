-- By a test at the 64 bits of a word.
-- Assumes nothing.
use native.Mathlib.Omega.{arith}
use Rattle.field.proofs.TimesX.{times_xeach_code}
use Rattle.arithmetic.proofs.times_x_each.Goals as goal

pub returns : goal.returns
returns c = times_xeach_code c.args.w (omega arith)
