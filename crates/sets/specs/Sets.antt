-- Two publishers, one set of tables (document 02, Job 7): the store, which sets are loaded and which are held, what loading and taking answer.
-- What stands in quotes is the request's.
-- Assumes nothing.
use Rattle.std.specs.Prelude.{◌≡◌, ◌⊎◌, ℕ, zero, suc, ◌<◌, Bool, not, ◌&&◌, ◌||◌, List, [], ◌∷◌, eqb, ltb, get_or, set, replicate}
use Rattle.forms.specs.Lists.{when}
use Rattle.forms.specs.Refusals.{unless}
use Rattle.field.specs.Substitution.{different, Different}
use Rattle.field.specs.Mixing.{row_sum}
use Rattle.field.specs.Published as article
use Rattle.labyrinth.specs.Cipher.{Parts, parts_of}
use Rattle.rows.specs.Rows.{accepted}
use Rattle.sets.specs.declared.Set.{Set}
use Rattle.sets.specs.declared.Store.{Store}
use Rattle.sets.specs.declared.Changed.{Changed}

-- ---- 'A store holds sets 0 to 3, each a substitution of 256 bytes and a row'

-- 'set 0 is in any store the published one'
unfoldable pub published : Set
published = record { substitution = article.table1; row = article.row }

-- what an unloaded set of a fresh store holds, and what stands outside a store
unfoldable pub blank : Set
blank = record { substitution = replicate 256 0; row = replicate 8 0 }

-- a store has four sets, so this stands nowhere
abbrev pub nowhere : Set
nowhere = record { substitution = []; row = [] }

-- set i of a store: set 0 whatever stands at its place
unfoldable pub set_in : Store → ℕ → Set
set_in store i = when (eqb i 0) published (when (ltb i 4) (get_or store.sets i nowhere) blank)

unfoldable pub substitution_in : Store → ℕ → List ℕ
substitution_in store i = (set_in store i).substitution

unfoldable pub row_in : Store → ℕ → List ℕ
row_in store i = (set_in store i).row

-- 'the article's map with that set's tables': the cipher's parts by set i; those of set 0 are the article's
unfoldable pub parts_in : Store → ℕ → Parts
parts_in store i = parts_of (substitution_in store i) (row_in store i)

-- ---- loaded and held

-- 'a substitution that isn't 256 different bytes with 14, then 13'
unfoldable pub set_refusal : List ℕ → List ℕ → ℕ
set_refusal s g = unless (different s) 14 (unless (accepted g) 13 0)

-- set i is in the store and loaded: set 0 is, and 'any other set that loading would refuse with 14 or 13 counts as unloaded'
unfoldable pub loaded : Store → ℕ → Bool
loaded store i = eqb i 0 || (ltb i 4 && eqb (set_refusal (substitution_in store i) (row_in store i)) 0)

-- publisher p has taken set i
unfoldable pub has_taken : Store → ℕ → ℕ → Bool
has_taken store p i = eqb (get_or store.taken p 0) i

-- someone holds set i: set 0 'counts as held for good'
unfoldable pub held : Store → ℕ → Bool
held store i = eqb i 0 || (has_taken store 0 i || has_taken store 1 i)

-- 'A fresh store has only set 0 loaded and none taken.'
unfoldable pub fresh_store : Store
fresh_store = record { sets = published ∷ blank ∷ blank ∷ blank ∷ []; taken = 4 ∷ 4 ∷ [] }

-- the same in plain terms: a loaded set, a held one
abbrev pub Loaded : Store → ℕ → Type 0
Loaded store i = (i ≡ 0) ⊎ ((i < 4) × Different (substitution_in store i) × (row_sum (row_in store i) ≡ 0 → ⊥))

abbrev pub Held : Store → ℕ → Type 0
Held store i = (i ≡ 0) ⊎ ((get_or store.taken 0 0 ≡ i) ⊎ (get_or store.taken 1 0 ≡ i))

-- ---- 'A publisher loads a set, or takes one, which drops the one taken before.'

-- what a store is afterwards: the changed one on 0; 'a refused load or take changes nothing in the store'
abbrev pub changed : ℕ → Store → Store → Changed
changed zero new old = record { number = 0; store = new }
changed (suc number) new old = record { number = suc number; store = old }

-- the opposite of 'a publisher or set number outside the store'
abbrev pub in_store : ℕ → ℕ → Bool
in_store publisher i = ltb publisher 2 && ltb i 4

-- loading: 15, 14, 13, then 16 for 'a set that someone holds, the loader included'
unfoldable pub load_refusal : Store → ℕ → ℕ → List ℕ → List ℕ → ℕ
load_refusal store publisher i s g =
    unless (in_store publisher i) 15 (unless (different s) 14 (unless (accepted g) 13 (unless (not (held store i)) 16 0)))

abbrev pub with_set : Store → ℕ → Set → Store
with_set store i v = record { sets = set store.sets i v; taken = store.taken }

unfoldable pub load : Store → ℕ → ℕ → List ℕ → List ℕ → Changed
load store publisher i s g =
    changed (load_refusal store publisher i s g) (with_set store i (record { substitution = s; row = g })) store

-- taking: 15, for an unloaded set too
unfoldable pub take_refusal : Store → ℕ → ℕ → ℕ
take_refusal store publisher i = unless (in_store publisher i && loaded store i) 15 0

abbrev pub with_taken : Store → ℕ → ℕ → Store
with_taken store publisher i = record { sets = store.sets; taken = set store.taken publisher i }

unfoldable pub take : Store → ℕ → ℕ → Changed
take store publisher i = changed (take_refusal store publisher i) (with_taken store publisher i) store
