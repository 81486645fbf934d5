-- A whole tape, by its steps (document 01: the tape program 'steps through the tape .. until it is ended').
-- Assumes nothing.
use Rattle.std.specs.Prelude.{ℕ, zero, suc, not, List, [], ◌∷◌, ◌++◌, eqb, ltb, length, drop}
use Rattle.forms.specs.Lists.{when}
use Rattle.tape_rules.specs.declared.Tape.{Tape}
use Rattle.tape_rules.specs.Steps.{Answer, fresh, step}
use Rattle.tape_run.specs.declared.Answered.{Answered}

-- ---- the steps

-- at most k steps from a state on: each begins where the one before stopped, until one leaves an ended state
unfoldable pub steps : ℕ → Tape → List ℕ → List Answer
steps zero t rest = []
steps (suc k) t rest = let a = step t rest 65 in a ∷ when a.next.ended [] (steps k a.next (drop a.taken rest))

-- the steps of a whole tape; a step that does not end takes a byte at least, so one more than the tape has bytes are enough
unfoldable pub tape_steps : List ℕ → List Answer
tape_steps tape = steps (suc (length tape)) fresh tape

-- the bytes that steps write, one after another
unfoldable pub joined : List Answer → List ℕ
joined [] = []
joined (a ∷ more) = a.written ++ joined more

-- the answers of a whole tape
unfoldable pub tape_answers : List ℕ → List ℕ
tape_answers tape = joined (tape_steps tape)

-- ---- how a run ended

-- the number of the last of some steps that wrote; k if none did
unfoldable pub last_number : ℕ → List Answer → ℕ
last_number k [] = k
last_number k (a ∷ more) = last_number (when (eqb (length a.written) 0) k a.number) more

-- the number of the last answer to a tape; 0 if there is none
abbrev pub last_answer : List ℕ → ℕ
last_answer tape = last_number 0 (tape_steps tape)

-- the rest at which the last step begins
unfoldable pub last_rest : List ℕ → List Answer → List ℕ
last_rest rest [] = rest
last_rest rest (a ∷ []) = rest
last_rest rest (a ∷ b ∷ more) = last_rest (drop a.taken rest) (b ∷ more)

-- ---- a run

-- what a run answers: a number and the bytes written
pub record Ran : Type 0 where
  pub number : ℕ
  pub written : List ℕ

-- the run of a tape into so many bytes: 5 if they aren't 65,537 (a choice of ours), nothing written; 'for a longer tape', of more than
-- 65,536 bytes, 'it writes the byte 04 only'; else the tape's answers
unfoldable pub run : List ℕ → ℕ → Ran
run tape room =
    when (not (eqb room 65537)) (record { number = 5; written = [] })
    (when (ltb 65536 (length tape)) (record { number = 4; written = 4 ∷ [] })
    (record { number = 0; written = tape_answers tape }))

-- what the code returns
abbrev pub returned : Ran → Answered
returned r = record { number = r.number; length = length r.written }
