-- j half-blocks stand, and what is left to do gives the whole.
-- Assumes nothing.
use Rattle.std.proofs.Common.{◌≡◌, ℕ, ◌*◌, List, take}
use Rattle.forms.specs.Words.{words}
use Rattle.field.specs.Merged.{lookup}
use Rattle.labyrinth.specs.Keys.{expanded_words}
use Rattle.labyrinth.specs.Refusals.{padded}
use Rattle.labyrinth.proofs.Expansion.{Grown}
use Rattle.expansion.proofs.grow.Given as goal

abbrev pub invariant-loop-j : goal.invariant-loop-j
invariant-loop-j l = (bytes : List ℕ) → l.initial.w ≡ padded (words (l.n * l.l) bytes) → Grown (lookup l.t) l.n l.l l.j (take l.n l.g) l.w (expanded_words (lookup l.t) l.n l.l bytes)
