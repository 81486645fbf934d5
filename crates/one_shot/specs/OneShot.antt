-- A key expanded and used at once: the working key, and the number, expansion's before the operation's own.
-- Assumes nothing.
use Rattle.std.specs.Prelude.{ℕ, zero, suc, ◌≡◌, Bool, true, false, List, eqb, length}
use Rattle.forms.specs.Refusals.{unless, first_of}
use Rattle.rows.specs.Rows.{row_refusal}
use Rattle.judge.specs.declared.Verdict.{Verdict}
use Rattle.judge.specs.Judge.{Judged}
use Rattle.labyrinth.specs.declared.WorkingKey.{WorkingKey}
use Rattle.labyrinth.specs.Cipher.{article}
use Rattle.labyrinth.specs.Refusals.{expand_refusal, expansion}

-- the working key that a key expands to; n = 0 and zeros if it is refused
unfoldable pub key_of : ℕ → ℕ → List ℕ → WorkingKey
key_of n l key = (expansion article.SM 0 n l key (expand_refusal n l (length key))).key

-- expansion's number, or if it is 0 the operation's
abbrev pub number_of : ℕ → ℕ → List ℕ → ℕ → ℕ
number_of n l key operation = first_of (expand_refusal n l (length key)) operation

-- the byte that says yes, by the number and whether the tag is valid: 1, or 0 for every refusal and every no
abbrev pub yes_byte : ℕ → Bool → ℕ
yes_byte zero true = 1
yes_byte zero false = 0
yes_byte (suc number) tag = 0

-- a row has a length here: 4 if it isn't eight bytes, a number of ours, then mixing's own
unfoldable pub row_number : List ℕ → ℕ
row_number g = unless (eqb (length g) 8) 4 (row_refusal g)

-- the product of two rows: 4 if one of them isn't eight bytes, then 5 if the destination isn't
unfoldable pub product_number : List ℕ → List ℕ → ℕ → ℕ
product_number g h room = unless (eqb (length g) 8) 4 (unless (eqb (length h) 8) 4 (unless (eqb room 8) 5 0))

-- the inverse row: a row's number, then 5 if the destination isn't eight bytes
unfoldable pub inverse_number : List ℕ → ℕ → ℕ
inverse_number g room = first_of (row_number g) (unless (eqb room 8) 5 0)

-- judging a row: 4 if it isn't eight bytes, and nothing else
unfoldable pub judge_number : List ℕ → ℕ
judge_number g = unless (eqb (length g) 8) 4 0

-- what is set, by the number: what a verdict on the row says, or a no and the zero word
abbrev pub VerdictGiven : List ℕ → ℕ → ℕ → ℕ → Type 0
VerdictGiven g number said word =
    (number ≡ 0 → (v : Verdict) × Judged g v × (said ≡ yes_byte 0 v.yes) × (word ≡ v.word)) × ((number ≡ 0 → ⊥) → (said ≡ 0) × (word ≡ 0))
