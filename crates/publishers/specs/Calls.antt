-- Calls of two publishers on one store (document 02, Job 7): what each call answers and leaves, and what a publisher gets over a history of calls.
-- Assumes nothing.
use Rattle.std.specs.Prelude.{ℕ, ◌-◌, ◌*◌, Bool, false, ◌&&◌, ◌||◌, List, [], ◌∷◌, eqb, length, set}
use Rattle.forms.specs.Lists.{when}
use Rattle.forms.specs.Refusals.{outcome}
use Rattle.labyrinth.specs.declared.WorkingKey.{WorkingKey}
use Rattle.labyrinth.specs.declared.Expanded.{Expanded}
use Rattle.labyrinth.specs.Cipher.{Parts}
use Rattle.labyrinth.specs.Keys.{E, U}
use Rattle.labyrinth.specs.Refusals.{block_refusal, expand_refusal, under_key, under_length, expansion}
use Rattle.modes.specs.Cbc.{cbc_seal, cbc_open}
use Rattle.modes.specs.Ctr.{ctr}
use Rattle.modes.specs.Cmac.{tag}
use Rattle.modes.specs.KeyWrap.{wrapped, authentic, unwrapped}
use Rattle.modes.specs.Refusals.{cbc_refusal, ctr_refusal, cmac_refusal, wrap_refusal, unwrap_refusal}
use Rattle.cmac.specs.declared.Verified.{Verified}
use Rattle.cmac.specs.Verification.{verification}
use Rattle.sets.specs.declared.Store.{Store}
use Rattle.sets.specs.Sets.{parts_in, loaded, load_refusal, load, take_refusal, take}

-- every operation that names a set, with its arguments, `before` being what its destination holds. A block is enciphered or deciphered by either
-- engine: their contracts are the same
pub data Use : Type 0 where
  expands : (n l i : ℕ) (key : List ℕ) → Use
  enciphers : (k : WorkingKey) (source before : List ℕ) → Use
  deciphers : (k : WorkingKey) (source before : List ℕ) → Use
  seals : (k : WorkingKey) (start source before : List ℕ) → Use
  opens : (k : WorkingKey) (start source before : List ℕ) → Use
  counts : (k : WorkingKey) (start : List ℕ) (q : ℕ) (source before : List ℕ) → Use
  tags : (k : WorkingKey) (message before : List ℕ) → Use
  verifies : (k : WorkingKey) (message given : List ℕ) → Use
  wraps : (k : WorkingKey) (source before : List ℕ) → Use
  unwraps : (k : WorkingKey) (source before : List ℕ) → Use

-- the set that it names: 'The working key's record now names its set'
unfoldable pub named : Use → ℕ
named (expands n l i key) = i
named (enciphers k source before) = k.set
named (deciphers k source before) = k.set
named (seals k start source before) = k.set
named (opens k start source before) = k.set
named (counts k start q source before) = k.set
named (tags k message before) = k.set
named (verifies k message given) = k.set
named (wraps k source before) = k.set
named (unwraps k source before) = k.set

-- what a publisher is answered: a number, a number with a key, with what the destination holds then, or with a yes or no. The store, which a load
-- or a take hands back too, is the kiosk's, and no answer
pub data Answer : Type 0 where
  number : ℕ → Answer
  key : Expanded → Answer
  buffer : ℕ → List ℕ → Answer
  verdict : Verified → Answer

-- a number, and what it leaves
abbrev pub left : ℕ → List ℕ → List ℕ → Answer
left r result before = buffer r (outcome r result before)

-- what a use answers, by whether the named set is loaded and by its parts: the operations' contracts
unfoldable pub used : Bool → Parts → Use → Answer
used is p (expands n l i k) = key (expansion p.SM i n l k (under_length n l is (expand_refusal n l (length k))))
used is p (enciphers k source before) =
    left (under_key k.n is (block_refusal k.n (length source) (length before))) (E p k.n k.words source) before
used is p (deciphers k source before) =
    left (under_key k.n is (block_refusal k.n (length source) (length before))) (U p k.n k.words source) before
used is p (seals k start source before) =
    left (under_key k.n is (cbc_refusal k.n (length start) (length source) (length before)))
    (cbc_seal (E p k.n k.words) (16 * k.n) start source) before
used is p (opens k start source before) =
    left (under_key k.n is (cbc_refusal k.n (length start) (length source) (length before)))
    (cbc_open (U p k.n k.words) (16 * k.n) start source) before
used is p (counts k start q source before) =
    left (under_key k.n is (ctr_refusal k.n (length start) (length source) (length before)))
    (ctr (E p k.n k.words) (16 * k.n) start q source) before
used is p (tags k message before) =
    left (under_key k.n is (cmac_refusal k.n (length before))) (tag (E p k.n k.words) (length before) message) before
used is p (verifies k message given) =
    verdict (verification (E p k.n k.words) message given (under_key k.n is (cmac_refusal k.n (length given))))
used is p (wraps k source before) =
    left (under_key k.n is (wrap_refusal k.n (length source) (length before))) (wrapped (E p k.n k.words) source) before
used is p (unwraps k source before) =
    left (under_key k.n is (unwrap_refusal k.n (length source) (length before) (authentic (U p k.n k.words) source)))
    (unwrapped (U p k.n k.words) source) before

-- a call, with the publisher that makes it
pub data Call : Type 0 where
  loads : (p i : ℕ) (substitution row : List ℕ) → Call
  takes : (p i : ℕ) → Call
  uses : (p : ℕ) (u : Use) → Call

unfoldable pub answer : Store → Call → Answer
answer store (loads p i s g) = number (load_refusal store p i s g)
answer store (takes p i) = number (take_refusal store p i)
answer store (uses p u) = used (loaded store (named u)) (parts_in store (named u)) u

-- the store after a call: only a load or a take changes it
unfoldable pub after : Store → Call → Store
after store (loads p i s g) = (load store p i s g).store
after store (takes p i) = (take store p i).store
after store (uses p u) = store

unfoldable pub after_all : Store → List Call → Store
after_all store [] = store
after_all store (c ∷ cs) = after_all (after store c) cs

-- what publisher p gets over a history of calls: its answers, but for the numbers of its loads
unfoldable pub got : ℕ → Store → List Call → List Answer
got p store [] = []
got p store (loads q i s g ∷ cs) = got p (after store (loads q i s g)) cs
got p store (takes q i ∷ cs) = let rest = got p (after store (takes q i)) cs in when (eqb q p) (answer store (takes q i) ∷ rest) rest
got p store (uses q u ∷ cs) = let rest = got p store cs in when (eqb q p) (answer store (uses q u) ∷ rest) rest

-- what of a history bears on publisher p: accepted loads, which change the sets, whoever made them; and its own takes and uses
unfoldable pub visible : ℕ → Store → List Call → List Call
visible p store [] = []
visible p store (loads q i s g ∷ cs) =
    let rest = visible p (after store (loads q i s g)) cs in when (eqb (load_refusal store q i s g) 0) (loads q i s g ∷ rest) rest
visible p store (takes q i ∷ cs) = let rest = visible p (after store (takes q i)) cs in when (eqb q p) (takes q i ∷ rest) rest
visible p store (uses q u ∷ cs) = let rest = visible p store cs in when (eqb q p) (uses q u ∷ rest) rest

-- a store with what the other publisher has taken forgotten: 4 is no set
unfoldable pub forget : ℕ → Store → Store
forget p store = record { sets = store.sets; taken = set store.taken (1 - p) 4 }

-- set i was loaded anew in a history
unfoldable pub renewed : ℕ → Store → List Call → Bool
renewed i store [] = false
renewed i store (loads q j s g ∷ cs) = (eqb j i && eqb (load_refusal store q j s g) 0) || renewed i (after store (loads q j s g)) cs
renewed i store (takes q j ∷ cs) = renewed i (after store (takes q j)) cs
renewed i store (uses q u ∷ cs) = renewed i store cs
