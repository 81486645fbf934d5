-- The words are those of the walk.
-- Assumes nothing.
use Rattle.std.proofs.Common.{ℕ, List, ap, arith}
use Rattle.labyrinth.specs.declared.Expanded.{Expanded}
use Rattle.labyrinth.proofs.Expansion.{product}
use Rattle.expansion.proofs.expand_by.Goals as goal

pub overflow_mul-n : goal.overflow_mul-n
overflow_mul-n c = omega (arith, product _ c.requires.size _ c.requires.top)

pub load_key-requires : goal.load_key-requires
load_key-requires c = (product _ c.requires.size _ c.requires.top, c.requires.len)

pub grow-w-requires : goal.grow-w-requires
grow-w-requires c = (c.requires.size, c.requires.low, c.requires.top)

-- the answer, by its words
key : ℕ → ℕ → List ℕ → Expanded
key n set w = record { number = 0; key = record { n = n; set = set; words = w } }

pub returns : goal.returns
unfolding key
returns c =
    let a = c.args in
    ap (λ (w : List ℕ). key a.n a.set w) (c.grow-w.ensures a.key.now c.load_key.ensures)
