-- A step of the tape in plain terms: what applies first, in document 01's order of step refusals, and what the step answers then. That `step` does so
-- is a law (proofs/Plain). G says of a number, a count of bytes taken, a list of bytes written and a next state that the step gave them.
-- Assumes nothing.
use Rattle.std.specs.Prelude.{◌≡◌, true, false, ◌⊎◌, List, [], ◌∷◌, ℕ, ◌+◌, ◌*◌, ◌≤◌, ◌<◌, length, get_or, take, drop}
use Rattle.forms.specs.Words.{words, bytes}
use Rattle.forms.specs.Refusals.{Unless}
use Rattle.field.specs.Mixing.{mix}
use Rattle.field.specs.Published.{row}
use Rattle.labyrinth.specs.Blocks.{each}
use Rattle.labyrinth.specs.Cipher.{article}
use Rattle.labyrinth.specs.Keys.{E, U}
use Rattle.labyrinth.specs.Refusals.{Legal, LegalLength, expansion}
use Rattle.tape_rules.specs.declared.Tape.{Tape}
use Rattle.tape_rules.specs.Steps.{ended, with_key}

-- a command byte that is none of document 01's
abbrev pub UnknownCommand : ℕ → Type 0
UnknownCommand c = (c ≡ 0x00 → ⊥) × (c ≡ 0x01 → ⊥) × (c ≡ 0x03 → ⊥) × (c ≡ 0x04 → ⊥) × (c ≡ 0x05 → ⊥)

-- of an operand of so many bytes, which begins at a place of the rest, each byte that is not used is 0
abbrev pub UnusedZero : ℕ → ℕ → ℕ → List ℕ → Type 0
UnusedZero at used width rest = (i : ℕ) → used ≤ i → i < width → get_or rest (at + i) 0 ≡ 0

module _ (G : ℕ → ℕ → List ℕ → Tape → Type 0) (t : Tape) (rest : List ℕ) where
  -- 'Then 8 if operands are cut short: takes the whole rest, ends.'
  abbrev pub WholeSays : ℕ → Type 0 → Type 0
  WholeSays width further = Unless (width ≤ length rest) (G 8 (length rest) (8 ∷ []) (ended t)) further

  -- 'For 01 then 1, 2, and 10 if an unused key byte isn't zero'; the state is kept, and 131 bytes are taken; else the working key is set
  abbrev pub KeySays : ℕ → ℕ → Type 0
  KeySays n l =
      Unless (Legal n) (G 1 131 (1 ∷ []) t)
      (Unless (LegalLength l) (G 2 131 (2 ∷ []) t)
      (Unless (UnusedZero 3 (8 * (n * l)) 128 rest) (G 10 131 (10 ∷ []) t)
      (G 0 131 (0 ∷ []) (with_key (expansion article.SM 0 n l (take (8 * (n * l)) (take 128 (drop 3 rest))) 0).key t))))

  -- 'For 03 and 04 then 9 if no key was set, 1, and 10 if an unused block byte isn't zero'; 65 bytes are taken, and the state is kept; else the
  -- answer is followed by the 16n bytes that the map gives
  abbrev pub BlockSays : (ℕ → List ℕ → List ℕ → List ℕ) → Type 0
  BlockSays map =
      let n = t.key.n in
      Unless (t.keyed ≡ true) (G 9 65 (9 ∷ []) t)
      (Unless (Legal n) (G 1 65 (1 ∷ []) t)
      (Unless (UnusedZero 1 (16 * n) 64 rest) (G 10 65 (10 ∷ []) t)
      (G 0 65 (0 ∷ map n t.key.words (take (16 * n) (take 64 (drop 1 rest)))) t)))

  -- 05: the answer is followed by the mixed word
  abbrev pub WordSays : Type 0
  WordSays = G 0 9 (0 ∷ bytes 1 (each 1 (mix row) (words 1 (take 8 (drop 1 rest))))) t

  -- by the command byte: '7 if the command is unknown: takes 1, ends'; '00 ends the tape: number 0, one byte taken, none written'
  abbrev pub CommandSays : ℕ → Type 0
  CommandSays c =
      (UnknownCommand c × G 7 1 (7 ∷ []) (ended t))
      ⊎ (((c ≡ 0x00) × G 0 1 [] (ended t))
      ⊎ (((c ≡ 0x01) × WholeSays 131 (KeySays (get_or rest 1 0) (get_or rest 2 0)))
      ⊎ (((c ≡ 0x03) × WholeSays 65 (BlockSays (E article)))
      ⊎ (((c ≡ 0x04) × WholeSays 65 (BlockSays (U article)))
      ⊎ ((c ≡ 0x05) × WholeSays 9 WordSays)))))

  -- 'First, in an ended state too, 5 if the answer buffer isn't 65 bytes: none taken, none written, same state.' An ended state 'gives 0, takes and
  -- writes none, and is ended'. 'A rest of length 0 in a state that has not ended answers 8: it writes that byte, takes none and ends.'
  abbrev pub StepSays : ℕ → Type 0
  StepSays room =
      Unless (room ≡ 65) (G 5 0 [] t)
      (Unless (t.ended ≡ false) (G 0 0 [] (ended t))
      (Unless (0 < length rest) (G 8 0 (8 ∷ []) (ended t))
      (CommandSays (get_or rest 0 0))))
