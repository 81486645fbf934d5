-- The block operations do not refuse these lengths.
-- Assumes nothing.
use mathlib.Core.Path.{sym, ap, ◌∙◌}
use mathlib.Core.Bool.{Bool}
use Rattle.forms.specs.Refusals.{outcome}
use Rattle.labyrinth.specs.Cipher.{article}
use Rattle.labyrinth.specs.Working.{way}
use Rattle.tape_rules.proofs.Cases.{map_used}
use Rattle.tape.proofs.map_used.Goals as goal

pub returns-then-back : goal.returns-then-back
returns-then-back c =
    let call = c.decipher_published in
    let a = c.args in
    map_used a.k.n a.src.now a.dst.now c.requires.0 c.requires.1 c.requires.2 call.ensures.number
    (call.ensures.block ∙ ap (λ (b : Bool). outcome call.result (way article b a.k.n a.k.words a.src.now) a.dst.now) (sym c.if-back.true))

pub returns-else-back : goal.returns-else-back
returns-else-back c =
    let call = c.encipher_published in
    let a = c.args in
    map_used a.k.n a.src.now a.dst.now c.requires.0 c.requires.1 c.requires.2 call.ensures.number
    (call.ensures.block ∙ ap (λ (b : Bool). outcome call.result (way article b a.k.n a.k.words a.src.now) a.dst.now) (sym c.if-back.false))
