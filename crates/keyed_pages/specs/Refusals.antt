-- What the writer and the keyed reader turn away (document 02, Job 9), with its numbers in their order of checks.
-- Assumes nothing.
use Rattle.std.specs.Prelude.{ℕ, ◌*◌, ◌/◌, ◌%◌, ◌&&◌, List, eqb, leb}
use Rattle.forms.specs.Refusals.{unless}
use Rattle.labyrinth.specs.declared.WorkingKey.{WorkingKey}
use Rattle.labyrinth.specs.Refusals.{under_key}
use Rattle.sets.specs.declared.Store.{Store}
use Rattle.sets.specs.Sets.{loaded}
use Rattle.pages.specs.Pages.{record_length, blocks, is_record, parts, tagged}
use Rattle.keyed_pages.specs.Keyed.{tag_under}

-- '1, 15 and 12 for' a key: n illegal, its set not loaded, n not 1; then what the further checks say
unfoldable pub for_key : Store → WorkingKey → ℕ → ℕ
for_key store k further = under_key k.n (loaded store k.set) (unless (eqb k.n 1) 12 further)

-- '1, 15 and 12 for the sealing key, the same for the tag key'
unfoldable pub for_keys : Store → WorkingKey → WorkingKey → ℕ → ℕ
for_keys store sealing tagging further = for_key store sealing (for_key store tagging further)

-- '19 for a title that isn't 32 bytes, 6 for the start block, 4 for a body that isn't 0 to 4,096 whole blocks, and 5 for a destination not of the record's
-- length'
unfoldable pub write_lengths : ℕ → ℕ → ℕ → ℕ → ℕ
write_lengths title start text destination =
    unless (eqb title 32) 19 (unless (eqb start 16) 6
    (unless (eqb (text % 16) 0 && leb (text / 16) 4096) 4 (unless (eqb destination (record_length (text / 16))) 5 0)))

-- 'The writer checks the two keys as the keyed reader does, then' the lengths
unfoldable pub write_refusal : Store → WorkingKey → WorkingKey → ℕ → ℕ → ℕ → ℕ → ℕ
write_refusal store sealing tagging title start text destination = for_keys store sealing tagging (write_lengths title start text destination)

-- the keyed reader: after the keys 'any other layout with 19', 'a wrong tag with 20', 'and 5 for a destination not of the body's length'
unfoldable pub read_refusal : Store → WorkingKey → WorkingKey → List ℕ → ℕ → ℕ
read_refusal store sealing tagging r destination =
    for_keys store sealing tagging
    (unless (is_record r) 19 (unless (tagged (tag_under store tagging) (parts r)) 20 (unless (eqb destination (16 * blocks r)) 5 0)))
