-- By a test at the 256 bytes.
-- Assumes nothing.
use native.Mathlib.Omega.{arith}
use Rattle.field.proofs.TimesX.{times_x_code}
use Rattle.arithmetic.proofs.times_x.Goals as goal

pub returns : goal.returns
returns c = times_x_code c.args.a (omega arith)
