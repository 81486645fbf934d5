-- Expansion's number, or the operation under the key that it gave.
-- Assumes nothing.
use mathlib.Core.List.{List}
use Prim.Native.Nat.{ℕ}
use lib.ListN.{length}
use Rattle.labyrinth.specs.Cipher.{article}
use Rattle.labyrinth.specs.Keys.{U}
use Rattle.labyrinth.specs.Refusals.{block_refusal}
use Rattle.one_shot.proofs.OneShot.{key_refused, key_passed}
use Rattle.labyrinth_c.proofs.labyrinth_decipher.Goals as goal
use Rattle.labyrinth_c.proofs.labyrinth_decipher.Goals.{Start}

-- the operation's number and result, by the size and the words of a key
abbrev number : Start → ℕ → ℕ
number s = let a = s.args in λ m. block_refusal m (length a.src.now) (length a.dst.now)

abbrev result : Start → ℕ → List ℕ → List ℕ
result s = let a = s.args in λ m ws. U article m ws a.src.now

pub returns-then-x-ne0 : goal.returns-then-x-ne0
returns-then-x-ne0 c = let both = key_refused c.args.n c.args.l c.args.key.now (number (goal.at.returns-then-x-ne0 c).Start) (result (goal.at.returns-then-x-ne0 c).Start) c.args.dst.now c.expand_published-x.ensures c.if-x-ne0.true in record { number = both.0; block = both.1 }

pub returns : goal.returns
returns c = let both = key_passed c.args.n c.args.l c.args.key.now (number (goal.at.returns c).Start) (result (goal.at.returns c).Start) c.args.dst.now c.expand_published-x.ensures c.if-x-ne0.false (c.decipher_published.ensures.number, c.decipher_published.ensures.block) in record { number = both.0; block = both.1 }
