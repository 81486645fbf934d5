-- Document 02, Job 10, sentence by sentence, as Requests has the requests before it.
-- Assumes nothing.
use Rattle.std.specs.Prelude.{◌≡◌, true, false, ◌↔◌, ◌⊎◌, List, [], ◌∷◌, ◌++◌, ℕ, suc, ◌+◌, ◌≤◌, ◌<◌, length, get_or, take}
use Rattle.forms.specs.Lists.{has}
use Rattle.forms.specs.Refusals.{Unless}
use Rattle.registers.specs.declared.Entry.{Entry}
use Rattle.registers.specs.declared.Register.{Register}
use Rattle.registers.specs.declared.Added.{Added}
use Rattle.registers.specs.declared.Found.{Found}
use Rattle.registers.specs.Registers.{blank, empty, held, entry_at, number_at, replacements, chain, current, followed, Present, Replaced, AddNumber, extended, add, look_up}
use Rattle.register_histories.specs.Calls.{Call, adds, looks_up, reached, entries}
use Rattle.register_histories.specs.Chains.{FirstWith, NextOf, Root, InChainFrom, Sound, ReplacedBy}

-- ---- Job 10: which key replaced which

-- "A register holds up to 64 page keys: a 16-bit number, the number it replaces (0 for none), and 40 bytes of wrapped key." Those of a register are its first
-- entries, as many as its count says, and of a count above 64 all: `held`. What the operations give: the empty register, a key added, a number looked up
abbrev pub MakesEmpty : Register → Type 0
MakesEmpty r = r ≡ empty

abbrev pub AddsKey : Register → ℕ → ℕ → List ℕ → Added → Type 0
AddsKey r number replaces key answer = answer ≡ add r number replaces key

abbrev pub LooksUpKey : Register → ℕ → Found → Type 0
LooksUpKey r number answer = answer ≡ look_up r number

abbrev pub HoldsUpTo64 : Type 0
HoldsUpTo64 = (r : Register) → length (held r) ≤ 64

abbrev pub EmptyHoldsNone : Type 0
EmptyHoldsNone = (r : Register) → MakesEmpty r → held r ≡ []

-- a key that is added stands behind those that were there. A register of the code has room for 64 entries; where that matters it is asked for
abbrev pub AddedBehind : Type 0
AddedBehind =
    (r : Register) (number replaces : ℕ) (key : List ℕ) (answer : Added) → length r.entries ≡ 64 → AddsKey r number replaces key answer → answer.number ≡ 0
    → held answer.register ≡ held r ++ (record { number = number; replaces = replaces; key = key } ∷ [])

-- the operations called one after another, refused calls included, each on the register that the one before handed back
pub data Called : Register → List Call → Register → Type 0 where
  none : {r : Register} → Called r [] r
  adding : {r s : Register} {calls : List Call} {number replaces : ℕ} {key : List ℕ} {answer : Added} → AddsKey r number replaces key answer
      → Called answer.register calls s → Called r (adds number replaces key ∷ calls) s
  looking : {r s : Register} {calls : List Call} {number : ℕ} {answer : Found} → LooksUpKey r number answer → Called r calls s
      → Called r (looks_up number ∷ calls) s

-- "Entries are never removed." After any calls, from any register, one made by hand too
abbrev pub NeverRemoved : Type 0
NeverRemoved = (r s : Register) (calls : List Call) → length r.entries ≡ 64 → Called r calls s → take (length (held r)) (held s) ≡ held r

-- "A lookup takes the first entry with the number, then each time the first later entry that replaces the one reached; 0 matches none." The places of a
-- chain, in any register: it starts where it starts, goes on each time at such an entry, `NextOf`, and ends where there is none
pub record Follows (es : List Entry) (start : ℕ) : Type 0 where
  pub starts : get_or (chain es start) 0 0 ≡ start
  pub goes_on : (i : ℕ) → suc i < length (chain es start) → NextOf es (get_or (chain es start) i 0) (get_or (chain es start) (suc i) 0)
  pub ends : (y : ℕ) → NextOf es (current es start) y → ⊥

abbrev pub ChainsFollow : Type 0
ChainsFollow = (es : List Entry) (start : ℕ) → start < length es → Follows es start

-- so each place is above the one before, every look-up ends, and 63 replacements are followed at most
abbrev pub ChainsGoUpward : Type 0
ChainsGoUpward =
    (es : List Entry) (start i : ℕ) → start < length es → suc i < length (chain es start) → get_or (chain es start) i 0 < get_or (chain es start) (suc i) 0

abbrev pub FewFollowed : Type 0
FewFollowed = (r : Register) (number : ℕ) (answer : Found) → LooksUpKey r number answer → answer.followed < 64

-- "Asked for a number, it gives the entry at the end of its replacements, with the rule that decided: 0 "still current" or 1 "replaced", and how many
-- replacements were followed."
pub record Gives (es : List Entry) (number : ℕ) (answer : Found) : Type 0 where
  pub at : ℕ
  pub first : FirstWith es number at
  pub entry : answer.entry ≡ entry_at es (current es at)
  pub followed : suc answer.followed ≡ length (chain es at)
  pub still_current : (answer.rule ≡ 0) ↔ (answer.followed ≡ 0)
  pub replaced : (answer.rule ≡ 1) ↔ (answer.followed ≡ 0 → ⊥)

-- "a lookup of an absent number gives 22", and so does 0, since "0 matches none"; document 01: "a refusal returns, beside its number, only zeros"
abbrev pub AnswersLookUp : Register → ℕ → Found → Type 0
AnswersLookUp r number answer =
    Unless ((number ≡ 0 → ⊥) × Present number (held r)) (answer ≡ record { number = 22; entry = blank; rule = 0; followed = 0 })
    ((answer.number ≡ 0) × Gives (held r) number answer)

-- "After any calls from an empty register": such calls lead to `reached`, with the entries `entries`, of crate register_histories
abbrev pub CallsReach : Type 0
CallsReach = (r s : Register) (calls : List Call) → MakesEmpty r → Called r calls s → (s ≡ reached calls) × (held s ≡ entries calls)

-- then numbers are present once, a replaced number is present and stands earlier, and none is named as replaced twice
abbrev pub ReachedSound : Type 0
ReachedSound = (calls : List Call) → Sound (entries calls)

-- "chains that start at different entries replacing none never meet": no place is in both
abbrev pub ChainsNeverMeet : Type 0
ChainsNeverMeet =
    (calls : List Call) (p q x : ℕ) → Root (entries calls) p → Root (entries calls) q → (p ≡ q → ⊥) → has x (chain (entries calls) p) ≡ true
    → has x (chain (entries calls) q) ≡ true → ⊥

-- "and no chain closes": none comes back to where it started, from whichever entry on; nor by number alone, whatever the order of the entries
abbrev pub NoChainCloses : Type 0
NoChainCloses = (calls : List Call) (start : ℕ) → start < length (entries calls) → has start (replacements (entries calls) start) ≡ false

abbrev pub NoNumberCloses : Type 0
NoNumberCloses = (calls : List Call) (number : ℕ) → ReplacedBy (entries calls) number number → ⊥

-- each entry is in exactly one chain from an entry replacing none
pub record InOneChain (es : List Entry) (x : ℕ) : Type 0 where
  pub root : ℕ
  pub is : InChainFrom es x root
  pub only : (other : ℕ) → InChainFrom es x other → other ≡ root

abbrev pub EachInOneChain : Type 0
EachInOneChain = (calls : List Call) (x : ℕ) → x < length (entries calls) → InOneChain (entries calls) x

-- and whichever number of a chain is asked for, the same entry is given
abbrev pub SameEnd : Type 0
SameEnd =
    (calls : List Call) (start x y : ℕ) (f g : Found) → start < length (entries calls) → has x (chain (entries calls) start) ≡ true
    → has y (chain (entries calls) start) ≡ true → LooksUpKey (reached calls) (number_at (entries calls) x) f
    → LooksUpKey (reached calls) (number_at (entries calls) y) g → (f.number ≡ 0) × (g.number ≡ 0) × (f.entry ≡ g.entry)

-- a key that is added changes no chain but the one whose end it replaces, in any register
abbrev pub ExtendsOneChain : Type 0
ExtendsOneChain =
    (r : Register) (number replaces : ℕ) (key : List ℕ) (answer : Added) (start : ℕ) → length r.entries ≡ 64 → AddsKey r number replaces key answer
    → answer.number ≡ 0 → start < length (held r)
    → Unless ((number_at (held r) (current (held r) start) ≡ replaces) × (replaces ≡ 0 → ⊥)) (chain (held answer.register) start ≡ chain (held r) start)
    (chain (held answer.register) start ≡ chain (held r) start ++ (length (held r) ∷ []))

-- so it is given for its own number and, by rule 1, for the number that it replaces; and for each number whose end that was, one replacement more being
-- followed. For every other number that the register had the answer stays
abbrev pub GivesAdded : Type 0
GivesAdded =
    (r : Register) (number replaces : ℕ) (key : List ℕ) (answer : Added) (f : Found) → length r.entries ≡ 64 → AddsKey r number replaces key answer
    → answer.number ≡ 0 → LooksUpKey answer.register number f
    → f ≡ record { number = 0; entry = record { number = number; replaces = replaces; key = key }; rule = 0; followed = 0 }

abbrev pub GivesReplacing : Type 0
GivesReplacing =
    (r : Register) (number replaces : ℕ) (key : List ℕ) (answer : Added) (f : Found) → length r.entries ≡ 64 → AddsKey r number replaces key answer
    → answer.number ≡ 0 → (replaces ≡ 0 → ⊥) → LooksUpKey answer.register replaces f
    → f ≡ record { number = 0; entry = record { number = number; replaces = replaces; key = key }; rule = 1; followed = 1 }

abbrev pub OthersGivenAsBefore : Type 0
OthersGivenAsBefore =
    (r : Register) (number replaces : ℕ) (key : List ℕ) (answer : Added) (m : ℕ) (f g : Found) → length r.entries ≡ 64
    → AddsKey r number replaces key answer → answer.number ≡ 0 → LooksUpKey r m f → f.number ≡ 0 → LooksUpKey answer.register m g
    → Unless ((f.entry.number ≡ replaces) × (replaces ≡ 0 → ⊥)) (g ≡ f)
    (g ≡ record { number = 0; entry = record { number = number; replaces = replaces; key = key }; rule = 1; followed = f.followed + 1 })

-- "It refuses a number that is 0 or present with 21, then a replaced number, unless 0, that is absent or that any entry already names as replaced, with 22,
-- then a sixty-fifth entry with 23": `AddNumber`, each number exactly when and in this order; and document 01's rule for what a refusal returns, "any state
-- it was given unchanged", a count above 64 too
abbrev pub AnswersAdding : Register → ℕ → ℕ → List ℕ → Added → Type 0
AnswersAdding r number replaces key answer =
    AddNumber (held r) number replaces answer.number
    × (answer.number ≡ 0 → answer.register ≡ extended r (record { number = number; replaces = replaces; key = key }))
    × ((answer.number ≡ 0 → ⊥) → answer.register ≡ r)

-- so what is taken
abbrev pub AddsTaken : Type 0
AddsTaken =
    (r : Register) (number replaces : ℕ) (key : List ℕ) (answer : Added) → AddsKey r number replaces key answer
    → (answer.number ≡ 0)
    ↔ (((number ≡ 0 → ⊥) × (Present number (held r) → ⊥)) × ((replaces ≡ 0) ⊎ (Present replaces (held r) × (Replaced replaces (held r) → ⊥)))
    × (length (held r) < 64))
