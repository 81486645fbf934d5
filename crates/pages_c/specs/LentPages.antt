-- Page records as C sees them: a store and two working keys are lent as bytes, and the title is told by its place in the record.
-- Assumes nothing.
use Rattle.std.specs.Prelude.{ℕ, List, eqb, length}
use Rattle.forms.specs.Lists.{when}
use Rattle.records.specs.Numbers.{records_number}

-- the number: 4 unless the store and both working keys have their lengths, then what the further checks say
unfoldable pub lent_keys_number : List ℕ → List ℕ → List ℕ → ℕ → ℕ
lent_keys_number store sealing tagging further = records_number (length store) (length sealing) (records_number (length store) (length tagging) further)

-- where the title begins, by the catalogue's number: at byte 11 of the record; 0 on a refusal
unfoldable pub title_at : ℕ → ℕ
title_at number = when (eqb number 0) 11 0
