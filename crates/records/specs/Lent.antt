-- An operation under a lent working key, by the set that it names in a lent store.
-- Assumes nothing.
use Rattle.std.specs.Prelude.{ℕ, ◌*◌, List, length}
use Rattle.labyrinth.specs.Keys.{E, U}
use Rattle.labyrinth.specs.Refusals.{under_key}
use Rattle.sets.specs.Sets.{loaded, parts_in}
use Rattle.records.specs.Records.{key_in, store_in}
use Rattle.records.specs.Numbers.{records_number}

-- the number: 4 for a record of another length, then 1, 15, and the operation's own, by the key's n
unfoldable pub lent_number : List ℕ → List ℕ → (ℕ → ℕ) → ℕ
lent_number store working own =
    records_number (length store) (length working) (under_key (key_in working).n (loaded (store_in store) (key_in working).set) (own (key_in working).n))

-- E and U, and the bytes of a block
unfoldable pub lent_e : List ℕ → List ℕ → List ℕ → List ℕ
lent_e store working = E (parts_in (store_in store) (key_in working).set) (key_in working).n (key_in working).words

unfoldable pub lent_u : List ℕ → List ℕ → List ℕ → List ℕ
lent_u store working = U (parts_in (store_in store) (key_in working).set) (key_in working).n (key_in working).words

unfoldable pub lent_size : List ℕ → ℕ
lent_size working = 16 * (key_in working).n
