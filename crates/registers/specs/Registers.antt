-- Which key replaced which (document 02, Job 10): a register of page keys, the chain of an entry's replacements, what adding and looking up answer. What
-- stands in quotes is the request's.
-- Assumes nothing.
use Rattle.std.specs.Prelude.{◌≡◌, ◌⊎◌, ℕ, zero, suc, ◌+◌, ◌<◌, min, Bool, not, ◌&&◌, ◌||◌, List, [], ◌∷◌, eqb, ltb, get_or, set, length, take, drop, replicate}
use Rattle.forms.specs.Lists.{when, any, first_from, last}
use Rattle.forms.specs.Refusals.{unless, Unless}
use Rattle.registers.specs.declared.Entry.{Entry}
use Rattle.registers.specs.declared.Register.{Register}
use Rattle.registers.specs.declared.Added.{Added}
use Rattle.registers.specs.declared.Found.{Found}

-- ---- 'A register holds up to 64 page keys: a 16-bit number, the number it replaces (0 for none), and 40 bytes of wrapped key.'

-- an entry of zeros
unfoldable pub blank : Entry
blank = record { number = 0; replaces = 0; key = replicate 40 0 }

unfoldable pub empty : Register
empty = record { count = 0; entries = replicate 64 blank }

-- the entries that a register holds, in the order of their adding: as many as its count says; document 01: 'a count of entries in it above its limit is
-- read as the limit'
unfoldable pub held : Register → List Entry
held r = take (min r.count 64) r.entries

-- the entry at a place, from 0 on, its number, and the number that it replaces
unfoldable pub entry_at : List Entry → ℕ → Entry
entry_at es place = get_or es place blank

abbrev pub number_at : List Entry → ℕ → ℕ
number_at es place = (entry_at es place).number

abbrev pub replaces_at : List Entry → ℕ → ℕ
replaces_at es place = (entry_at es place).replaces

-- ---- 'A lookup takes the first entry with the number, then each time the first later entry that replaces the one reached; 0 matches none.'

-- a number matches itself, but '0 matches none'
unfoldable pub matches : ℕ → ℕ → Bool
matches number other = not (eqb number 0) && eqb number other

-- an entry has a number; an entry replaces a number
unfoldable pub has_number : ℕ → Entry → Bool
has_number number e = matches number e.number

unfoldable pub replaces_number : ℕ → Entry → Bool
replaces_number number e = matches number e.replaces

-- 'the first entry with the number': its place, the count of entries if there is none
unfoldable pub place : ℕ → List Entry → ℕ
place number es = first_from (has_number number) 0 es

-- 'the first later entry that replaces the one reached': its place, the count of entries if there is none
unfoldable pub next : List Entry → ℕ → ℕ
next es reached = first_from (replaces_number (number_at es reached)) (suc reached) (drop (suc reached) es)

-- 'then each time': the places reached from an entry with this number on. The later entries are gone through in their order, the first of them standing at
-- the place `at`: one that replaces the entry reached is reached now, any other is passed by. So each place reached is `next` of the one before, and the
-- last has no next (`chain-follows`)
unfoldable pub follow : ℕ → ℕ → List Entry → List ℕ
follow number at [] = []
follow number at (e ∷ later) = when (replaces_number number e) (at ∷ follow e.number (suc at) later) (follow number (suc at) later)

-- the places of an entry's replacements, in the order in which they are followed
unfoldable pub replacements : List Entry → ℕ → List ℕ
replacements es start = follow (number_at es start) (suc start) (drop (suc start) es)

-- the chain that starts at a place: that place, and those of its replacements
unfoldable pub chain : List Entry → ℕ → List ℕ
chain es start = start ∷ replacements es start

-- ---- 'Asked for a number, it gives the entry at the end of its replacements, with the rule that decided: 0 "still current" or 1 "replaced", and how many
-- replacements were followed.'

-- the place at the end: the last of the chain
unfoldable pub current : List Entry → ℕ → ℕ
current es start = last start (chain es start)

unfoldable pub followed : List Entry → ℕ → ℕ
followed es start = length (replacements es start)

-- the rule: 0 if none was followed, else 1
unfoldable pub rule : ℕ → ℕ
rule zero = 0
rule (suc more) = 1

-- ---- what is refused

-- a number is present; some entry names a number as replaced
unfoldable pub present : ℕ → List Entry → Bool
present number es = any (has_number number) es

unfoldable pub replaced : ℕ → List Entry → Bool
replaced number es = any (replaces_number number) es

-- the opposite of 'a number that is 0 or present'
unfoldable pub new : ℕ → List Entry → Bool
new number es = not (eqb number 0 || present number es)

-- the opposite of 'a replaced number, unless 0, that is absent or that any entry already names as replaced'
unfoldable pub replaceable : ℕ → List Entry → Bool
replaceable number es = eqb number 0 || (present number es && not (replaced number es))

-- adding: 'It refuses a number that is 0 or present with 21, then a replaced number .. with 22, then a sixty-fifth entry with 23'
unfoldable pub add_refusal : List Entry → ℕ → ℕ → ℕ
add_refusal es number replaces = unless (new number es) 21 (unless (replaceable replaces es) 22 (unless (ltb (length es) 64) 23 0))

-- looking up: 'a lookup of an absent number gives 22'
unfoldable pub look_up_refusal : List Entry → ℕ → ℕ
look_up_refusal es number = unless (present number es) 22 0

-- the same in plain terms: some entry has a number, or names it as replaced, and the numbers in their order. '0 matches none', so a look-up of 0 gives 22
-- even where a register made by hand has an entry with this number
pub record Somewhere (part : Entry → ℕ) (number : ℕ) (es : List Entry) : Type 0 where
  pub at : ℕ
  pub within : at < length es
  pub named : part (entry_at es at) ≡ number

abbrev pub Present : ℕ → List Entry → Type 0
Present number es = Somewhere (λ e. e.number) number es

abbrev pub Replaced : ℕ → List Entry → Type 0
Replaced number es = Somewhere (λ e. e.replaces) number es

abbrev pub AddNumber : List Entry → ℕ → ℕ → ℕ → Type 0
AddNumber es number replaces r =
    Unless ((number ≡ 0 → ⊥) × (Present number es → ⊥)) (r ≡ 21)
    (Unless ((replaces ≡ 0) ⊎ (Present replaces es × (Replaced replaces es → ⊥))) (r ≡ 22)
    (Unless (length es < 64) (r ≡ 23) (r ≡ 0)))

abbrev pub LookUpNumber : List Entry → ℕ → ℕ → Type 0
LookUpNumber es number r = Unless ((number ≡ 0 → ⊥) × Present number es) (r ≡ 22) (r ≡ 0)

-- ---- what is answered

-- a register with one entry more, behind those that it holds
unfoldable pub extended : Register → Entry → Register
extended r e = record { count = r.count + 1; entries = set r.entries r.count e }

-- adding: the register with the entry on 0; document 01: 'any state it was given unchanged' on a refusal
abbrev pub added : ℕ → Register → Entry → Added
added zero r e = record { number = 0; register = extended r e }
added (suc number) r e = record { number = suc number; register = r }

unfoldable pub add : Register → ℕ → ℕ → List ℕ → Added
add r number replaces key = added (add_refusal (held r) number replaces) r (record { number = number; replaces = replaces; key = key })

-- looking up: from the place of the first entry with the number on; document 01: 'only zeros' on a refusal
abbrev pub found : ℕ → List Entry → ℕ → Found
found zero es start = record { number = 0; entry = entry_at es (current es start); rule = rule (followed es start); followed = followed es start }
found (suc number) es start = record { number = suc number; entry = blank; rule = 0; followed = 0 }

unfoldable pub look_up : Register → ℕ → Found
look_up r number = found (look_up_refusal (held r) number) (held r) (place number (held r))
