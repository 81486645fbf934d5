-- What is turned away, with document 01's numbers in its order of checks, and what is left then.
-- Assumes nothing.
use Rattle.std.specs.Prelude.{◌≡◌, ◌⊎◌, ℕ, zero, suc, ◌-◌, ◌*◌, Bool, ◌||◌, List, [], ◌++◌, eqb, length, replicate}
use Rattle.forms.specs.Refusals.{unless}
use Rattle.labyrinth.specs.declared.Expanded.{Expanded}
use Rattle.labyrinth.specs.Keys.{expanded_words}

-- n is 1, 2 or 4
unfoldable pub legal : ℕ → Bool
legal n = eqb n 1 || (eqb n 2 || eqb n 4)

-- l is 2, 3 or 4
unfoldable pub legal_length : ℕ → Bool
legal_length l = eqb l 2 || (eqb l 3 || eqb l 4)

-- the same in plain terms
abbrev pub Legal : ℕ → Type 0
Legal n = (n ≡ 1) ⊎ ((n ≡ 2) ⊎ (n ≡ 4))

abbrev pub LegalLength : ℕ → Type 0
LegalLength l = (l ≡ 2) ⊎ ((l ≡ 3) ⊎ (l ≡ 4))

-- enciphering and deciphering a block: 1 if n is illegal, 4 if the source isn't 16n bytes, 5 if the destination isn't
unfoldable pub block_refusal : ℕ → ℕ → ℕ → ℕ
block_refusal n source destination =
    unless (legal n) 1 (unless (eqb source (16 * n)) 4 (unless (eqb destination (16 * n)) 5 0))

-- expansion: 1 if n is illegal, 2 if l is, 3 if the key isn't 8nl bytes
unfoldable pub expand_refusal : ℕ → ℕ → ℕ → ℕ
expand_refusal n l key = unless (legal n) 1 (unless (legal_length l) 2 (unless (eqb key (8 * (n * l))) 3 0))

-- document 02, Job 7: 'block operations, runs and tags check 15 right after 1': under a working key whose set is loaded or isn't, of an operation
-- that else answers number
unfoldable pub under_key : ℕ → Bool → ℕ → ℕ
under_key n loaded number = unless (legal n) 1 (unless loaded 15 number)

-- 'expansion right after 2'
unfoldable pub under_length : ℕ → ℕ → Bool → ℕ → ℕ
under_length n l loaded number = unless (legal n) 1 (unless (legal_length l) 2 (unless loaded 15 number))

-- a list of at most 32 words, with zeros behind it
unfoldable pub padded : List ℕ → List ℕ
padded ws = ws ++ replicate (32 - length ws) 0

-- what expansion answers, by its number: the working key, which names its set, or n = 0, set 0 and all words zero
unfoldable pub expansion : (ℕ → ℕ) → ℕ → ℕ → ℕ → List ℕ → ℕ → Expanded
expansion SM set n l key zero = record { number = 0; key = record { n = n; set = set; words = padded (expanded_words SM n l key) } }
expansion SM set n l key (suc r) = record { number = suc r; key = record { n = 0; set = 0; words = padded [] } }
