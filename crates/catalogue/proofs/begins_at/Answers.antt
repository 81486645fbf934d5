-- Too short, or its byte decides.
-- Assumes nothing.
use native.Mathlib.Omega.{arith}
use Rattle.pages.proofs.Commands.{begins_short, begins_long}
use Rattle.catalogue.proofs.begins_at.Goals as goal

pub returns-then-bytes-at : goal.returns-then-bytes-at
returns-then-bytes-at c = let a = c.args in begins_short a.c a.w a.at a.bytes.now (omega arith)

pub returns-then-bytes-at-2 : goal.returns-then-bytes-at-2
returns-then-bytes-at-2 c = let a = c.args in begins_short a.c a.w a.at a.bytes.now c.if-bytes-at-2.true

pub returns : goal.returns
returns c = let a = c.args in begins_long a.c a.w a.at a.bytes.now c.if-bytes-at-2.false
