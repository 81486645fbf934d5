-- The leading zeros and the bit length make eight.
-- Assumes nothing.
use Rattle.arithmetic.proofs.BitLength.{bit_length_leading}
use native.Mathlib.Omega.{arith}
use Rattle.arithmetic.proofs.bit_length.Goals as goal

pub returns : goal.returns
returns c = bit_length_leading 8 c.args.b (omega arith)
