-- A step of the command tape (document 01, 'The command tape' and its step refusals), rule by rule in the paper's order; the end of a tape
-- is document 02's, Job 2. What stands in quotes is the papers'.
-- Assumes nothing.
use Rattle.std.specs.Prelude.{ℕ, zero, suc, ◌*◌, true, false, not, List, [], ◌∷◌, eqb, ltb, length, get_or, take, drop, replicate}
use Rattle.forms.specs.Lists.{when}
use Rattle.forms.specs.Words.{words, bytes}
use Rattle.forms.specs.Refusals.{unless}
use Rattle.field.specs.Mixing.{mix}
use Rattle.field.specs.Published.{row}
use Rattle.labyrinth.specs.declared.WorkingKey.{WorkingKey}
use Rattle.labyrinth.specs.Blocks.{each}
use Rattle.labyrinth.specs.Cipher.{article}
use Rattle.labyrinth.specs.Keys.{E, U}
use Rattle.labyrinth.specs.Refusals.{legal, legal_length, expansion}
use Rattle.operands.specs.Operands.{zeros}
use Rattle.tape_rules.specs.declared.Tape.{Tape}
use Rattle.tape_rules.specs.declared.Stepped.{Stepped}

-- ---- states and answers

-- 'A fresh state has n = 0, zero words, and neither mark.'
abbrev pub fresh : Tape
fresh = record { key = record { n = 0; set = 0; words = replicate 32 0 }; keyed = false; ended = false }

-- the same state with the mark 'ended'
abbrev pub ended : Tape → Tape
ended t = record { key = t.key; keyed = t.keyed; ended = true }

-- the same state with another working key, and the mark that one was set
abbrev pub with_key : WorkingKey → Tape → Tape
with_key k t = record { key = k; keyed = true; ended = t.ended }

-- what a step answers: 'a number, bytes taken, bytes written and the next state'
pub record Answer : Type 0 where
  pub number : ℕ
  pub taken : ℕ
  pub written : List ℕ
  pub next : Tape

-- 'The answer is the number as one byte, followed on 0 by' more bytes, or by none
abbrev pub answers : Tape → ℕ → ℕ → List ℕ → Answer
answers next number taken more = record { number = number; taken = taken; written = number ∷ more; next = next }

-- of the refusals 'all but 5 write their one byte'
abbrev pub refuses : Tape → ℕ → ℕ → Answer
refuses next number taken = answers next number taken []

-- an end: number 0, none written, ended
abbrev pub ends : Tape → ℕ → Answer
ends t taken = record { number = 0; taken = taken; written = []; next = ended t }

-- ---- commands: the rest begins with the command byte

-- '8 if operands are cut short: takes the whole rest, ends'; width counts the command byte too
abbrev pub whole : ℕ → Tape → List ℕ → Answer → Answer
whole width t rest further = when (ltb (length rest) width) (refuses (ended t) 8 (length rest)) further

-- 'Refusals 1, 2, 9 and 10 take the whole command and keep the state.'
abbrev pub judged : ℕ → ℕ → Tape → Answer → Answer
judged zero width t done = done
judged (suc number) width t done = refuses t (suc number) width

-- 'For 01 then 1, 2, and 10 if an unused key byte isn't zero.'
unfoldable pub key_refusal : ℕ → ℕ → List ℕ → ℕ
key_refusal n l key = unless (legal n) 1 (unless (legal_length l) 2 (unless (zeros (drop (8 * (n * l)) key)) 10 0))

-- '01: n and l, one byte each, and 128 bytes of key, the first 8nl used. Sets the working key.'
unfoldable pub set_key : Tape → List ℕ → Answer
set_key t rest =
    let n = get_or rest 1 0 in
    let l = get_or rest 2 0 in
    let key = take 128 (drop 3 rest) in
    whole 131 t rest
    (judged (key_refusal n l key) 131 t
    (answers (with_key (expansion article.SM 0 n l (take (8 * (n * l)) key) 0).key t) 0 131 []))

-- 'For 03 and 04 then 9 if no key was set, 1, and 10 if an unused block byte isn't zero.'
unfoldable pub map_refusal : Tape → List ℕ → ℕ
map_refusal t block = unless t.keyed 9 (unless (legal t.key.n) 1 (unless (zeros (drop (16 * t.key.n) block)) 10 0))

-- '03 enciphers, 04 deciphers: 64 bytes, the first 16n used'; m is E or U
unfoldable pub map_block : (ℕ → List ℕ → List ℕ → List ℕ) → Tape → List ℕ → Answer
map_block m t rest =
    let n = t.key.n in
    let block = take 64 (drop 1 rest) in
    whole 65 t rest
    (judged (map_refusal t block) 65 t
    (answers t 0 65 (m n t.key.words (take (16 * n) block))))

-- '05 mixes a word of 8 bytes.'
unfoldable pub mix_word : Tape → List ℕ → Answer
mix_word t rest = whole 9 t rest (answers t 0 9 (bytes 1 (each 1 (mix row) (words 1 (take 8 (drop 1 rest))))))

-- by the command byte; '00 ends the tape: number 0, one byte taken, none written', and '7 if the command is unknown: takes 1, ends'
unfoldable pub command : ℕ → Tape → List ℕ → Answer
command c t rest =
    when (eqb c 0) (ends t 1)
    (when (eqb c 1) (set_key t rest)
    (when (eqb c 3) (map_block (E article) t rest)
    (when (eqb c 4) (map_block (U article) t rest)
    (when (eqb c 5) (mix_word t rest)
    (refuses (ended t) 7 1)))))

-- ---- a step

-- the end rule, which stands here alone (document 02, Job 2): 'A rest of length 0 in a state that has not ended answers 8: it writes that
-- byte, takes none and ends.'
abbrev pub at_end : Tape → Answer
at_end t = refuses (ended t) 8 0

-- 'First, in an ended state too, 5 if the answer buffer isn't 65 bytes: none taken, none written, same state.'
abbrev pub misfits : Tape → Answer
misfits t = record { number = 5; taken = 0; written = []; next = t }

-- that first; then an ended state, which 'gives 0, takes and writes none, and is ended'; then a rest of length 0, and else its command
unfoldable pub step : Tape → List ℕ → ℕ → Answer
step t rest room =
    when (not (eqb room 65)) (misfits t) (when t.ended (ends t 0)
    (when (eqb (length rest) 0) (at_end t)
    (command (get_or rest 0 0) t rest)))

-- ---- the step in the code

-- what it returns
abbrev pub returned : Answer → Stepped
returned a = record { number = a.number; taken = a.taken; written = length a.written; next = a.next }
