-- What document 02, Job 7, says of stores, sentence by sentence: each is quoted, and what stands for it is stated over the definitions of crate sets.
-- A store has four sets and two marks, as every store of the code has; where that matters it is asked for.
-- Assumes nothing.
use Rattle.std.specs.Prelude.{◌≡◌, ◌⊎◌, ◌↔◌, List, ℕ, ◌<◌, length, get_or}
use Rattle.sets.specs.declared.Store.{Store}
use Rattle.sets.specs.declared.Changed.{Changed}
use Rattle.sets.specs.Sets.{published, set_in, substitution_in, row_in, Loaded, fresh_store, load, take}
use Rattle.publishers.specs.Calls.{Call, after_all}

-- "set 0 is in any store the published one and counts as held for good": it is after any calls, and no load of it is accepted
abbrev pub ZeroPublished : Type 0
ZeroPublished = (s : Store) (cs : List Call) → set_in (after_all s cs) 0 ≡ published

abbrev pub ZeroHeld : Type 0
ZeroHeld = (s : Store) (p : ℕ) (substitution row : List ℕ) → (load s p 0 substitution row).number ≡ 0 → ⊥

-- "A fresh store has only set 0 loaded and none taken."
abbrev pub FreshLoaded : Type 0
FreshLoaded = (i : ℕ) → Loaded fresh_store i ↔ (i ≡ 0)

abbrev pub FreshTaken : Type 0
FreshTaken = (p i : ℕ) → p < 2 → i < 4 → get_or fresh_store.taken p 0 ≡ i → ⊥

-- "Any other set that loading would refuse with 14 or 13 counts as unloaded."
abbrev pub UnloadedWouldBeRefused : Type 0
UnloadedWouldBeRefused =
    (s : Store) (p i : ℕ) → p < 2 → i < 4 → (i ≡ 0 → ⊥)
    → (Loaded s i → ⊥) ↔ (((load s p i (substitution_in s i) (row_in s i)).number ≡ 14) ⊎ ((load s p i (substitution_in s i) (row_in s i)).number ≡ 13))

-- "A publisher loads a set": an accepted load puts the substitution and the row there, and leaves the other sets and what is taken
abbrev pub LoadPuts : Type 0
LoadPuts =
    (s : Store) (p i : ℕ) (substitution row : List ℕ) → length s.sets ≡ 4 → (load s p i substitution row).number ≡ 0
    → set_in (load s p i substitution row).store i ≡ record { substitution = substitution; row = row }

abbrev pub LoadLeaves : Type 0
LoadLeaves =
    (s : Store) (p i j : ℕ) (substitution row : List ℕ) → (j ≡ i → ⊥)
    → (set_in (load s p i substitution row).store j ≡ set_in s j) × ((load s p i substitution row).store.taken ≡ s.taken)

-- "or takes one, which drops the one taken before": after an accepted take it is the one taken; the sets and what the other has taken stay
abbrev pub TakeMarks : Type 0
TakeMarks = (s : Store) (p i : ℕ) → length s.taken ≡ 2 → (take s p i).number ≡ 0 → get_or (take s p i).store.taken p 0 ≡ i

abbrev pub TakeLeaves : Type 0
TakeLeaves =
    (s : Store) (p q i : ℕ) → (q ≡ p → ⊥) → ((take s p i).store.sets ≡ s.sets) × (get_or (take s p i).store.taken q 0 ≡ get_or s.taken q 0)

-- so both may take one set: what one can take, the other can take too, right after it as well
abbrev pub BothMayTake : Type 0
BothMayTake = (s : Store) (p q i : ℕ) → q < 2 → (take s p i).number ≡ 0 → ((take s q i).number ≡ 0) × ((take (take s p i).store q i).number ≡ 0)

-- "a refused load or take changes nothing in the store"
abbrev pub RefusedChangesNothing : Changed → Store → Type 0
RefusedChangesNothing r s = (r.number ≡ 0 → ⊥) → r.store ≡ s

abbrev pub RefusedLoad : Type 0
RefusedLoad = (s : Store) (p i : ℕ) (substitution row : List ℕ) → RefusedChangesNothing (load s p i substitution row) s

abbrev pub RefusedTake : Type 0
RefusedTake = (s : Store) (p i : ℕ) → RefusedChangesNothing (take s p i) s
