-- The records that cross to C as bytes in a buffer that the caller lends: what stands at which byte. A number or a word is eight bytes, the
-- least first. Every value of them is taken, so a record made by hand can be handed in.
-- Assumes nothing.
use Rattle.std.specs.Prelude.{ℕ, ◌+◌, ◌*◌, List, [], ◌∷◌, ◌++◌, get_or}
use Rattle.forms.specs.Lists.{tabulate, words_from}
use Rattle.forms.specs.Words.{bytes}
use Rattle.buffers.specs.Words.{word_at}
use Rattle.labyrinth.specs.declared.WorkingKey.{WorkingKey}
use Rattle.sets.specs.declared.Set.{Set}
use Rattle.sets.specs.declared.Store.{Store}
use Rattle.sets.specs.Sets.{nowhere}

-- ---- a working key, 272 bytes: n (8), its set (8), words 0 to 31 (8 each)

-- the record that bytes are
unfoldable pub key_in : List ℕ → WorkingKey
key_in b = record { n = word_at b 0; set = word_at b 8; words = tabulate 32 (λ j. word_at b (16 + 8 * j)) }

-- the bytes that a record is
unfoldable pub key_bytes : WorkingKey → List ℕ
key_bytes k = bytes 34 (k.n ∷ k.set ∷ k.words)

-- ---- a store, 1072 bytes: sets 0 to 3, each a substitution (256) and a row (8); then what publishers 0 and 1 have taken (8 each)

-- the set whose bytes begin at a place
unfoldable pub set_at : List ℕ → ℕ → Set
set_at b at = record { substitution = words_from 256 at b; row = words_from 8 (at + 256) b }

unfoldable pub store_in : List ℕ → Store
store_in b = record { sets = set_at b 0 ∷ set_at b 264 ∷ set_at b 528 ∷ set_at b 792 ∷ []; taken = word_at b 1056 ∷ word_at b 1064 ∷ [] }

unfoldable pub set_bytes : Set → List ℕ
set_bytes v = v.substitution ++ v.row

unfoldable pub store_bytes : Store → List ℕ
store_bytes st =
    set_bytes (get_or st.sets 0 nowhere) ++ (set_bytes (get_or st.sets 1 nowhere)
    ++ (set_bytes (get_or st.sets 2 nowhere) ++ (set_bytes (get_or st.sets 3 nowhere) ++ bytes 2 st.taken)))
