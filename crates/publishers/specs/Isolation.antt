-- "What one publisher gets from a call depends on its key, its input, the sets and what it has taken itself, never on the other's keys or pages;
-- only whether a load is refused may depend on what the other has taken." (document 02, Job 7)
-- Assumes nothing.
use Rattle.std.specs.Prelude.{◌≡◌, ◌⊎◌, List, ℕ, ◌<◌}
use Rattle.sets.specs.declared.Store.{Store}
use Rattle.sets.specs.Sets.{set_in, load_refusal}
use Rattle.publishers.specs.Calls.{Use, Call, takes, uses, named, answer, got, visible, forget}

-- of one call: a use and a take depend on their arguments and the one set that they name, whoever has taken what ("Naming a set doesn't require
-- holding it.")
abbrev pub UseReads : Type 0
UseReads = (s t : Store) (p q : ℕ) (u : Use) → set_in s (named u) ≡ set_in t (named u) → answer s (uses p u) ≡ answer t (uses q u)

abbrev pub TakeReads : Type 0
TakeReads = (s t : Store) (p i : ℕ) → set_in s i ≡ set_in t i → answer s (takes p i) ≡ answer t (takes p i)

-- over any history of calls: a publisher gets what it gets from the accepted loads and its own takes and uses alone, in a store that knows nothing of
-- what the other has taken
abbrev pub Isolated : Type 0
Isolated = (p : ℕ) → p < 2 → (s : Store) (cs : List Call) → got p s cs ≡ got p (forget p s) (visible p s cs)

-- so from any two histories in which those are the same, whatever else the other did, it gets the same
abbrev pub SameToOne : Type 0
SameToOne =
    (p : ℕ) → p < 2 → (s t : Store) (cs ds : List Call) → forget p s ≡ forget p t → visible p s cs ≡ visible p t ds → got p s cs ≡ got p t ds

-- "only whether a load is refused": were what the other has taken forgotten, a load's number would be the same, or 0 where it is 16
abbrev pub LoadAlone : Type 0
LoadAlone =
    (p : ℕ) → p < 2 → (s : Store) (i : ℕ) (substitution row : List ℕ)
    → (load_refusal s p i substitution row ≡ load_refusal (forget p s) p i substitution row)
    ⊎ ((load_refusal s p i substitution row ≡ 16) × (load_refusal (forget p s) p i substitution row ≡ 0))
