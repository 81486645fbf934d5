-- Expansion's number, or the operation under the key that it gave.
-- Assumes nothing.
use mathlib.Core.List.{List}
use Prim.Native.Nat.{ℕ}
use lib.ListN.{length}
use Rattle.labyrinth.specs.Cipher.{article}
use Rattle.labyrinth.specs.Keys.{E}
use Rattle.modes.specs.Cmac.{tag}
use Rattle.modes.specs.Refusals.{cmac_refusal}
use Rattle.one_shot.proofs.OneShot.{key_refused, key_passed}
use Rattle.labyrinth_c.proofs.labyrinth_cmac.Goals as goal
use Rattle.labyrinth_c.proofs.labyrinth_cmac.Goals.{Start}

-- src/lib.rt:122:9
-- the operation's number and result, by the size and the words of a key
abbrev number : Start → ℕ → ℕ
number s = λ m. cmac_refusal m (length s.args.tag.now)

abbrev result : Start → ℕ → List ℕ → List ℕ
result s = λ m ws. tag (E article m ws) (length s.args.tag.now) s.args.message.now

-- src/lib.rt:124:9
pub returns-then-x-ne0 : goal.returns-then-x-ne0
returns-then-x-ne0 c = let both = key_refused 1 c.args.l c.args.key.now (number (goal.at.returns-then-x-ne0 c).Start) (result (goal.at.returns-then-x-ne0 c).Start) c.args.tag.now c.expand_published-x.ensures c.if-x-ne0.true in record { number = both.0; tag = both.1 }

-- src/lib.rt:117:1
pub returns : goal.returns
returns c = let both = key_passed 1 c.args.l c.args.key.now (number (goal.at.returns c).Start) (result (goal.at.returns c).Start) c.args.tag.now c.expand_published-x.ensures c.if-x-ne0.false (c.make_published.ensures.number, c.make_published.ensures.tag) in record { number = both.0; tag = both.1 }
