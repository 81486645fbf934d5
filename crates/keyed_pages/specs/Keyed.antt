-- A page record under 'a sealing key and a tag key' (document 02, Job 9): working keys, each by the set that it names in one store.
-- Assumes nothing.
use Rattle.std.specs.Prelude.{ℕ, List}
use Rattle.labyrinth.specs.declared.WorkingKey.{WorkingKey}
use Rattle.labyrinth.specs.Keys.{E, U}
use Rattle.modes.specs.Cbc.{cbc_seal, cbc_open}
use Rattle.modes.specs.Cmac.{tag}
use Rattle.sets.specs.declared.Store.{Store}
use Rattle.sets.specs.Sets.{parts_in}
use Rattle.pages.specs.Pages.{layout, parts, sealed_page, body}

-- '16 bytes sealed by CBC': all blocks of a body after its start block, and opening them
unfoldable pub seal_under : Store → WorkingKey → List ℕ → List ℕ → List ℕ
seal_under store k = cbc_seal (E (parts_in store k.set) k.n k.words) 16

unfoldable pub open_under : Store → WorkingKey → List ℕ → List ℕ → List ℕ
open_under store k = cbc_open (U (parts_in store k.set) k.n k.words) 16

-- 'a 16-byte tag', by CMAC
unfoldable pub tag_under : Store → WorkingKey → List ℕ → List ℕ
tag_under store k = tag (E (parts_in store k.set) k.n k.words) 16

-- the record that the writer makes of number, day, title, start block and body
unfoldable pub written : Store → WorkingKey → WorkingKey → ℕ → ℕ → List ℕ → List ℕ → List ℕ → List ℕ
written store sealing tagging number day title start text =
    layout (sealed_page (seal_under store sealing) (tag_under store tagging) number day title start text)

-- the body that the keyed reader opens
unfoldable pub opened : Store → WorkingKey → List ℕ → List ℕ
opened store sealing r = body (open_under store sealing) (parts r)
