-- A register of page keys as it crosses to C, bytes in a buffer that the caller lends: what stands at which byte. Every value of them is taken, so a
-- register made by hand can be handed in.
-- Assumes nothing.
use Rattle.std.specs.Prelude.{ℕ, ◌+◌, ◌*◌, Bool, ◌&&◌, List, [], ◌∷◌, ◌++◌, eqb, ltb, length, get_or}
use Rattle.forms.specs.Lists.{tabulate, words_from}
use Rattle.forms.specs.Words.{byte, join}
use Rattle.buffers.specs.Words.{word_at}
use Rattle.registers.specs.declared.Entry.{Entry}
use Rattle.registers.specs.declared.Register.{Register}

-- ---- a key's number, two bytes, the least first

-- the number whose bytes begin at a place
unfoldable pub two_byte_number : List ℕ → ℕ → ℕ
two_byte_number b at = join 2 (λ i. get_or b (at + i) 0)

-- the bytes that a number is
unfoldable pub two_bytes : ℕ → List ℕ
two_bytes v = tabulate 2 (byte v)

-- ---- an entry, 44 bytes: its number (2), the number that it replaces (2), the wrapped key (40)

-- the entry whose bytes begin at a place
unfoldable pub entry_in : List ℕ → ℕ → Entry
entry_in b at = record { number = two_byte_number b at; replaces = two_byte_number b (at + 2); key = words_from 40 (at + 4) b }

unfoldable pub entry_bytes : Entry → List ℕ
entry_bytes e = two_bytes e.number ++ (two_bytes e.replaces ++ e.key)

-- ---- a register, 2824 bytes: its count (8, the least byte first), entries 0 to 63 (44 each)

unfoldable pub register_in : List ℕ → Register
register_in b = record { count = word_at b 0; entries = tabulate 64 (λ i. entry_in b (8 + 44 * i)) }

-- entries one after another
unfoldable pub entries_bytes : List Entry → List ℕ
entries_bytes [] = []
entries_bytes (e ∷ es) = entry_bytes e ++ entries_bytes es

unfoldable pub register_bytes : Register → List ℕ
register_bytes r = tabulate 8 (byte r.count) ++ entries_bytes r.entries

-- bytes that are a register with room for one more entry
unfoldable pub has_room : List ℕ → Bool
has_room b = eqb (length b) 2824 && ltb (register_in b).count 64
