-- How operations turn something away: checks in their order, each with its number, and what a buffer holds then. Which checks and numbers there are
-- is each operation's own.
-- Assumes nothing.
use Rattle.std.specs.Prelude.{ℕ, zero, suc, Bool, true, false, List, ◌⊎◌, eqb}

-- the number, unless the test holds; then what the further checks say
abbrev pub unless : Bool → ℕ → ℕ → ℕ
unless true number further = further
unless false number further = number

-- the same in plain terms: unless what is asked for holds, it is otherwise, and nothing more is asked; where it holds, further checks follow
abbrev pub Unless : Type 0 → Type 0 → Type 0 → Type 0
Unless holds otherwise further = ((holds → ⊥) × otherwise) ⊎ (holds × further)

-- what a buffer holds afterwards: the result on 0, and what it held before on a refusal
abbrev pub outcome : ℕ → List ℕ → List ℕ → List ℕ
outcome zero result before = result
outcome (suc number) result before = before

-- two calls, the second only if the first was not refused
unfoldable pub first_of : ℕ → ℕ → ℕ
first_of first second = unless (eqb first 0) first second
