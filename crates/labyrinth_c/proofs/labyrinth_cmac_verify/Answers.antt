-- Expansion's number and a no, or the answer under the key that it gave.
-- Assumes nothing.
use Rattle.one_shot.proofs.OneShot.{verify_refused, verify_passed}
use Rattle.labyrinth_c.proofs.labyrinth_cmac_verify.Goals as goal

-- src/lib.rt:151:9
pub returns-then-x-ne0 : goal.returns-then-x-ne0
returns-then-x-ne0 c =
    let a = c.args in
    let both = verify_refused 1 a.l a.key.now a.message.now a.tag.now c.expand_published-x.ensures c.if-x-ne0.true in record { number = both.0; yes = both.1 }

-- src/lib.rt:137:1
pub returns : goal.returns
returns c =
    let a = c.args in
    let both = verify_passed 1 a.l a.key.now a.message.now a.tag.now c.expand_published-x.ensures c.if-x-ne0.false c.verify_published-v.ensures c.as_byte.ensures in record { number = both.0; yes = both.1 }
