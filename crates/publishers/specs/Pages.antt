-- "with another, the opened page is still the sealed one, against the article's map with that set's tables, provided the stores handed in at
-- expanding, sealing and opening have that set loaded with the same substitution and row, as one store kept throughout does unless the set was loaded
-- anew between." (document 02, Job 7) And a key that travels wrapped over two (Job 8).
-- Assumes nothing.
use Rattle.std.specs.Prelude.{◌≡◌, true, false, List, ℕ, ◌*◌, ◌^◌, ◌<◌, length, get_or}
use Rattle.labyrinth.specs.declared.WorkingKey.{WorkingKey}
use Rattle.labyrinth.specs.declared.Expanded.{Expanded}
use Rattle.labyrinth.specs.Keys.{E, U, expanded_words}
use Rattle.labyrinth.specs.Refusals.{padded}
use Rattle.sets.specs.declared.Store.{Store}
use Rattle.sets.specs.Sets.{substitution_in, row_in, parts_in, loaded}
use Rattle.publishers.specs.Calls.{Call, Use, expands, enciphers, deciphers, seals, opens, counts, wraps, unwraps, uses, key, buffer, answer, after_all, renewed}

-- a list of bytes, a list of words of 64 bits
abbrev pub Bytes : List ℕ → Type 0
Bytes bs = (i : ℕ) → get_or bs i 0 < 2 ^ 8

abbrev pub Words : List ℕ → Type 0
Words ws = (i : ℕ) → get_or ws i 0 < 2 ^ 64

-- two stores "have that set loaded with the same substitution and row"
pub record SameSet (i : ℕ) (s t : Store) : Type 0 where
  pub here : loaded s i ≡ true
  pub there : loaded t i ≡ true
  pub substitution : substitution_in s i ≡ substitution_in t i
  pub row : row_in s i ≡ row_in t i

-- "as one store kept throughout does unless the set was loaded anew between"
abbrev pub KeptUnlessRenewed : Type 0
KeptUnlessRenewed = (i : ℕ) (s : Store) (cs : List Call) → loaded s i ≡ true → renewed i s cs ≡ false → SameSet i s (after_all s cs)

-- "the article's map with that set's tables": E and U by any loaded set undo each other, on every block and whatever words the key holds
abbrev pub SetsUndo : Type 0
SetsUndo =
    (s : Store) (i : ℕ) → loaded s i ≡ true → (n : ℕ) (ws b : List ℕ) → Words ws → length b ≡ 16 * n → Bytes b
    → (U (parts_in s i) n ws (E (parts_in s i) n ws b) ≡ b) × (E (parts_in s i) n ws (U (parts_in s i) n ws b) ≡ b)

-- a call made with store s, and another with store t on what the first left, both answered 0: the second leaves what the first was given
abbrev pub ComesBack : Store → Store → (List ℕ → List ℕ → Use) → (List ℕ → List ℕ → Use) → List ℕ → Type 0
ComesBack s t first second given =
    (p q : ℕ) (before between room opened : List ℕ) → answer s (uses p (first given before)) ≡ buffer 0 between
    → answer t (uses q (second between room)) ≡ buffer 0 opened → opened ≡ given

-- blocks, CBC and CTR, by one key over two stores
abbrev pub BlocksComeBackIn : Type 0
BlocksComeBackIn =
    (s t : Store) (k : WorkingKey) → SameSet k.set s t → Words k.words → (block : List ℕ) → Bytes block
    → ComesBack s t (enciphers k) (deciphers k) block × ComesBack s t (deciphers k) (enciphers k) block

abbrev pub CbcOpensAgainIn : Type 0
CbcOpensAgainIn =
    (s t : Store) (k : WorkingKey) → SameSet k.set s t → Words k.words → (start page : List ℕ) → Bytes start → Bytes page
    → ComesBack s t (seals k start) (opens k start) page

abbrev pub CtrOpensAgainIn : Type 0
CtrOpensAgainIn =
    (s t : Store) (k : WorkingKey) → SameSet k.set s t → (start : List ℕ) (q : ℕ) (page : List ℕ) → ComesBack s t (counts k start q) (counts k start q) page

-- document 02, Job 8: "Under one master key, its set unchanged, unwrapping what was wrapped yields the key, and what unwrapping accepts is just what
-- wrapping produces." A call made with store s and answered 0, and another with store t on what the first left, to a destination as long as what the
-- first was given: the second is answered 0 too, and leaves that
abbrev pub Yields : Store → Store → (List ℕ → List ℕ → Use) → (List ℕ → List ℕ → Use) → List ℕ → Type 0
Yields s t first second given =
    (p q : ℕ) (before between room : List ℕ) → answer s (uses p (first given before)) ≡ buffer 0 between → length room ≡ length given
    → answer t (uses q (second between room)) ≡ buffer 0 given

-- wrapped and unwrapped, so 18 is never answered of what was wrapped; and unwrapped and wrapped
abbrev pub KeysYieldIn : Type 0
KeysYieldIn =
    (s t : Store) (k : WorkingKey) → SameSet k.set s t → Words k.words → (given : List ℕ) → Bytes given
    → Yields s t (wraps k) (unwraps k) given × Yields s t (unwraps k) (wraps k) given

-- "the stores handed in at expanding, sealing and opening": a key expanded with store x names its set, and its words are the article's with the tables
-- that a store with the same set has, so all three are by one set of tables
abbrev pub ExpandsIn : Type 0
ExpandsIn =
    (x s : Store) (i : ℕ) → SameSet i x s → (p n l : ℕ) (secret : List ℕ) (e : Expanded) → answer x (uses p (expands n l i secret)) ≡ key e → e.number ≡ 0
    → e.key ≡ record { n = n; set = i; words = padded (expanded_words (parts_in s i).SM n l secret) }
