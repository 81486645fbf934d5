-- Document 02, Job 9, sentence by sentence, as Requests has the requests before it.
-- Assumes nothing.
use Rattle.std.specs.Prelude.{◌≡◌, Bool, true, false, ◌↔◌, List, [], ◌∷◌, ◌++◌, ℕ, ◌+◌, ◌-◌, ◌*◌, ◌/◌, ◌%◌, ◌^◌, ◌≤◌, ◌<◌, eqb, length, get_or, take, drop}
use Rattle.forms.specs.Lists.{when}
use Rattle.forms.specs.Refusals.{unless, Unless, outcome, first_of}
use Rattle.labyrinth.specs.declared.WorkingKey.{WorkingKey}
use Rattle.labyrinth.specs.declared.Expanded.{Expanded}
use Rattle.labyrinth.specs.Keys.{E, U, expanded_words}
use Rattle.labyrinth.specs.Refusals.{padded}
use Rattle.sets.specs.declared.Store.{Store}
use Rattle.sets.specs.Sets.{set_in, parts_in, Loaded}
use Rattle.publishers.specs.Calls.{Call, after_all, renewed}
use Rattle.publishers.specs.Pages.{Bytes, Words, SameSet}
use Rattle.modes.specs.Cbc.{cbc_seal, cbc_open}
use Rattle.modes.specs.Cmac.{tag}
use Rattle.pages.specs.Pages.{Page, Widths, front, layout, four_byte_number, blocks, is_record, parts, Alike}
use Rattle.catalogue.specs.declared.Entry.{Entry}
use Rattle.catalogue.specs.Catalogue.{entry, title_part}
use Rattle.keyed_pages.specs.Keyed.{written, opened}
use Rattle.keyed_pages.specs.Refusals.{write_refusal, read_refusal}
use Rattle.promise.specs.Demands.{Kept, SameUsed}
use Rattle.promise.specs.Requests.{ExpandsFor, UnderKey}

-- ---- Job 9: one page record, two readers

-- "A page record is commands in this order: 10 with a number of 4 bytes, 11 with a day of 4 bytes (both lowest byte first), 12 with a title of 32 bytes,
-- 13 with a start block of 16, then none to 4,096 times 15 with 16 bytes sealed by CBC, then 1F with a 16-byte tag of all bytes before 1F. Command bytes
-- are hexadecimal." `layout` is the record of a page's parts, `Widths` says what these are. A record is read back to its parts,
abbrev pub PagesReadBack : Type 0
PagesReadBack = (p : Page) → Widths p → (is_record (layout p) ≡ true) × (parts (layout p) ≡ p) × (16 * blocks (layout p) ≡ length p.sealed)

-- and bytes that are read as a record are that of their parts: so they are one exactly if they are some page's
abbrev pub RecordsOfTheirParts : Type 0
RecordsOfTheirParts = (r : List ℕ) → Bytes r → is_record r ≡ true → Widths (parts r) × (layout (parts r) ≡ r)

pub record LaidOut (r : List ℕ) : Type 0 where
  pub page : Page
  pub widths : Widths page
  pub laid : r ≡ layout page

abbrev pub RecordsExactly : Type 0
RecordsExactly = (r : List ℕ) → Bytes r → (is_record r ≡ true) ↔ LaidOut r

-- where the commands and the parts stand, counted from byte 0: the title is bytes 11 to 42, block i the 16 bytes from byte 61 + 17i on, and the tag the last 16; "all bytes
-- before 1F" are all but the last 17
pub record Places (r : List ℕ) : Type 0 where
  pub long : length r ≡ 77 + 17 * blocks r
  pub most : blocks r ≤ 4096
  pub commands : (get_or r 0 0 ≡ 0x10) × (get_or r 5 0 ≡ 0x11) × (get_or r 10 0 ≡ 0x12) × (get_or r 43 0 ≡ 0x13)
  pub command_15 : (i : ℕ) → i < blocks r → get_or r (60 + 17 * i) 0 ≡ 0x15
  pub command_1F : get_or r (60 + 17 * blocks r) 0 ≡ 0x1F
  pub number : (parts r).number ≡ four_byte_number (take 4 (drop 1 r))
  pub day : (parts r).day ≡ four_byte_number (take 4 (drop 6 r))
  pub title : (parts r).title ≡ take 32 (drop 11 r)
  pub start : (parts r).start ≡ take 16 (drop 44 r)
  pub sealed : (i : ℕ) → i < blocks r → take 16 (drop (16 * i) (parts r).sealed) ≡ take 16 (drop (61 + 17 * i) r)
  pub tag : (parts r).tag ≡ drop (length r - 16) r
  pub covered : front (parts r) ≡ take (length r - 17) r

abbrev pub PartsStand : Type 0
PartsStand = (r : List ℕ) → Bytes r → is_record r ≡ true → Places r

-- "The catalogue reader has no key: it gets number, day, block count and the title as that part of the record itself." Two operations on the record alone:
-- one answers the numbers, one the part
abbrev pub ReadsEntry : List ℕ → Entry → Type 0
ReadsEntry r answer = answer ≡ entry r

abbrev pub ReadsTitle : List ℕ → List ℕ → Type 0
ReadsTitle r title = title ≡ title_part r

-- "Records of one length that differ only in sealed bytes, start block or tag look the same to it." Such records are `Alike`, which is said of any two
-- lists of bytes; and whatever two lists are alike, the answers are equal, a refusal too
abbrev pub HiddenPartsAlike : Type 0
HiddenPartsAlike =
    (p q : Page) → Widths p → Widths q → p.number ≡ q.number → p.day ≡ q.day → p.title ≡ q.title → length p.sealed ≡ length q.sealed
    → Alike (layout p) (layout q)

abbrev pub LookTheSame : Type 0
LookTheSame =
    (r s : List ℕ) (d e : Entry) (t u : List ℕ) → Alike r s → ReadsEntry r d → ReadsEntry s e → ReadsTitle r t → ReadsTitle s u → (d ≡ e) × (t ≡ u)

-- "The keyed reader has a sealing key and a tag key": what it gives, each key by the set that it names in one store
abbrev pub OpensPage : Store → WorkingKey → WorkingKey → List ℕ → ℕ → List ℕ → List ℕ → Type 0
OpensPage store sealing tagging r number before after =
    (number ≡ read_refusal store sealing tagging r (length before)) × (after ≡ outcome number (opened store sealing r) before)

-- "verifies, then opens": a record that it accepts ends with the tag, under the tag key, of its own bytes before 1F, and its sealed blocks are opened, under
-- the sealing key, after its start block; a record that gets 20 does not, and the destination is what it was
abbrev pub RightTag : Store → WorkingKey → List ℕ → Type 0
RightTag store k r = drop (length r - 16) r ≡ tag (E (parts_in store k.set) k.n k.words) 16 (take (length r - 17) r)

abbrev pub VerifiesThenOpens : Store → WorkingKey → WorkingKey → List ℕ → ℕ → List ℕ → List ℕ → Type 0
VerifiesThenOpens store sealing tagging r number before after =
    (number ≡ 0
    → RightTag store tagging r
    × (after ≡ cbc_open (U (parts_in store sealing.set) sealing.n sealing.words) 16 (parts r).start (parts r).sealed))
    × (number ≡ 20 → (RightTag store tagging r → ⊥) × (after ≡ before))

-- "Add the writer": what it gives
abbrev pub WritesPage : Store → WorkingKey → WorkingKey → ℕ → ℕ → List ℕ → List ℕ → List ℕ → ℕ → List ℕ → List ℕ → Type 0
WritesPage store sealing tagging page day title start body number before after =
    (number ≡ write_refusal store sealing tagging (length title) (length start) (length body) (length before))
    × (after ≡ outcome number (written store sealing tagging page day title start body) before)

-- a record written has the parts handed in, "16 bytes sealed by CBC" under the sealing key, and the "tag of all bytes before 1F" under the tag key
abbrev pub WritesParts : Type 0
WritesParts =
    (store : Store) (sealing tagging : WorkingKey) (page day : ℕ) (title start body before r : List ℕ) → page < 2 ^ 32 → day < 2 ^ 32
    → WritesPage store sealing tagging page day title start body 0 before r
    → (is_record r ≡ true)
    × (parts r ≡ record {
      number = page;
      day = day;
      title = title;
      start = start;
      sealed = cbc_seal (E (parts_in store sealing.set) sealing.n sealing.words) 16 start body;
      tag = tag (E (parts_in store tagging.set) tagging.n tagging.words) 16 (take (length r - 17) r);
    })

-- "from each record written, under the same keys with their sets unchanged, the catalogue reader gets the number, day, block count and title handed in, the
-- keyed reader the body": a record written with store s and read with store t, to a destination as long as the body. No reader refuses it. That one store
-- kept throughout has a set unchanged, unless it was loaded anew between, is `KeptUnlessRenewed` of crate publishers
abbrev pub CatalogueGets : Type 0
CatalogueGets =
    (s : Store) (sealing tagging : WorkingKey) (page day : ℕ) (title start body before r : List ℕ) (answer : Entry) (part : List ℕ) → page < 2 ^ 32
    → day < 2 ^ 32 → WritesPage s sealing tagging page day title start body 0 before r → ReadsEntry r answer → ReadsTitle r part
    → (answer ≡ record { number = 0; page = page; day = day; blocks = length body / 16 }) × (part ≡ title)

abbrev pub ReaderGets : Type 0
ReaderGets =
    (s t : Store) (sealing tagging : WorkingKey) (page day : ℕ) (title start body before r room after : List ℕ) (number : ℕ)
    → SameSet sealing.set s t → SameSet tagging.set s t → Words sealing.words → page < 2 ^ 32 → day < 2 ^ 32 → Bytes start → Bytes body
    → WritesPage s sealing tagging page day title start body 0 before r → length room ≡ length body → OpensPage t sealing tagging r number room after
    → (number ≡ 0) × (after ≡ body)

-- both keys expanded, the sealing key with store x for set i, the tag key with store y for set j
abbrev pub PageTravels : Type 0
PageTravels =
    (x y s t : Store) (n l i m k j : ℕ) (sealing-secret tag-secret : List ℕ) (e f : Expanded) (page day : ℕ)
    (title start body before r room after : List ℕ) (number : ℕ)
    → SameSet i x s → SameSet i s t → SameSet j y s → SameSet j s t → Words e.key.words → page < 2 ^ 32 → day < 2 ^ 32 → Bytes start → Bytes body
    → ExpandsFor x n l i sealing-secret e → e.number ≡ 0 → ExpandsFor y m k j tag-secret f → f.number ≡ 0
    → WritesPage s e.key f.key page day title start body 0 before r → length room ≡ length body
    → OpensPage t e.key f.key r number room after
    → ((parts r).sealed ≡ cbc_seal (E (parts_in s i) n (padded (expanded_words (parts_in s i).SM n l sealing-secret))) 16 start body)
    × ((parts r).tag ≡ tag (E (parts_in s j) m (padded (expanded_words (parts_in s j).SM m k tag-secret))) 16 (take (length r - 17) r))
    × (number ≡ 0) × (after ≡ body)

-- and of functions that write a record and read it, for all arguments: the entry, or that of the writer's refusal; whether the title is the one handed in;
-- and Job 7's ComesBackIn, where the stores have the sets of both keys alike
abbrev pub CataloguesWritten : ℕ → ℕ → ℕ → List ℕ → Entry → Type 0
CataloguesWritten refusal page day body answer =
    answer ≡ when (eqb refusal 0) (record { number = 0; page = page; day = day; blocks = length body / 16 }) (record { number = refusal; page = 0; day = 0; blocks = 0 })

abbrev pub TitlesWritten : ℕ → Bool → Type 0
TitlesWritten refusal same = (same ≡ true) ↔ (refusal ≡ 0)

abbrev pub PageComesBackIn : Store → Store → WorkingKey → WorkingKey → ℕ → ℕ → List ℕ → ℕ → List ℕ → List ℕ → Type 0
PageComesBackIn s t sealing tagging writing reading body number before after =
    (number ≡ first_of writing reading)
    × (SameSet sealing.set s t → SameSet tagging.set s t
    → (number ≡ first_of writing (unless (eqb (length before) (length body)) 5 0)) × (after ≡ outcome number body before))

-- "The writer checks the two keys as the keyed reader does": "1, 15 and 12 for the sealing key, the same for the tag key", in plain terms and in order
abbrev pub PageKey : Store → WorkingKey → ℕ → Type 0 → Type 0
PageKey store k number further = UnderKey store k number (Unless (k.n ≡ 1) (number ≡ 12) further)

abbrev pub PageKeys : Store → WorkingKey → WorkingKey → ℕ → Type 0 → Type 0
PageKeys store sealing tagging number further = PageKey store sealing number (PageKey store tagging number further)

-- "then 19 for a title that isn't 32 bytes, 6 for the start block, 4 for a body that isn't 0 to 4,096 whole blocks, and 5 for a destination not of the
-- record's length"
abbrev pub WriteNumber : Store → WorkingKey → WorkingKey → ℕ → ℕ → ℕ → ℕ → ℕ → Type 0
WriteNumber store sealing tagging title start body destination number =
    PageKeys store sealing tagging number
    (Unless (title ≡ 32) (number ≡ 19) (Unless (start ≡ 16) (number ≡ 6)
    (Unless ((body % 16 ≡ 0) × (body ≤ 16 * 4096)) (number ≡ 4) (Unless (destination ≡ 77 + 17 * (body / 16)) (number ≡ 5) (number ≡ 0)))))

-- so what is taken
abbrev pub PageKeyTaken : Store → WorkingKey → Type 0
PageKeyTaken store k = (k.n ≡ 1) × Loaded store k.set

abbrev pub WritesTaken : Type 0
WritesTaken =
    (store : Store) (sealing tagging : WorkingKey) (title start body destination number : ℕ)
    → WriteNumber store sealing tagging title start body destination number
    → (number ≡ 0)
    ↔ (PageKeyTaken store sealing × PageKeyTaken store tagging × (title ≡ 32) × (start ≡ 16) × ((body % 16 ≡ 0) × (body ≤ 16 * 4096))
    × (destination ≡ 77 + 17 * (body / 16)))

-- and document 01's rule for what a refusal leaves
abbrev pub AnswersWriting : Store → WorkingKey → WorkingKey → List ℕ → List ℕ → List ℕ → ℕ → List ℕ → List ℕ → Type 0
AnswersWriting store sealing tagging title start body number before after =
    WriteNumber store sealing tagging (length title) (length start) (length body) (length before) number × Kept number before after

-- "A reader refuses any other layout with 19": of bytes. The catalogue reader, with document 01's rule, "only zeros, a no or an empty part",
abbrev pub AnswersEntry : List ℕ → Entry → Type 0
AnswersEntry r answer =
    Unless (LaidOut r) (answer ≡ record { number = 19; page = 0; day = 0; blocks = 0 })
    (answer ≡ record { number = 0; page = four_byte_number (take 4 (drop 1 r)); day = four_byte_number (take 4 (drop 6 r)); blocks = (length r - 77) / 17 })

abbrev pub AnswersTitle : List ℕ → List ℕ → Type 0
AnswersTitle r title = Unless (LaidOut r) (title ≡ []) (title ≡ take 32 (drop 11 r))

-- "the keyed one a wrong tag with 20, its order being 1, 15 and 12 for the sealing key, the same for the tag key, 19, 20, and 5 for a destination not of the
-- body's length"
abbrev pub ReadNumber : Store → WorkingKey → WorkingKey → List ℕ → ℕ → ℕ → Type 0
ReadNumber store sealing tagging r destination number =
    PageKeys store sealing tagging number
    (Unless (LaidOut r) (number ≡ 19) (Unless (RightTag store tagging r) (number ≡ 20)
    (Unless (destination ≡ 16 * ((length r - 77) / 17)) (number ≡ 5) (number ≡ 0))))

abbrev pub ReadsTaken : Type 0
ReadsTaken =
    (store : Store) (sealing tagging : WorkingKey) (r : List ℕ) (destination number : ℕ) → ReadNumber store sealing tagging r destination number
    → (number ≡ 0)
    ↔ (PageKeyTaken store sealing × PageKeyTaken store tagging × LaidOut r × RightTag store tagging r × (destination ≡ 16 * ((length r - 77) / 17)))

abbrev pub AnswersReading : Store → WorkingKey → WorkingKey → List ℕ → ℕ → List ℕ → List ℕ → Type 0
AnswersReading store sealing tagging r number before after = ReadNumber store sealing tagging r (length before) number × Kept number before after

-- so of a record that is cut short, or has bytes behind it, both readers say 19: it is none
abbrev pub RefusedByBoth : List ℕ → Type 0
RefusedByBoth c =
    (is_record c ≡ false)
    × ((answer : Entry) → ReadsEntry c answer → answer ≡ record { number = 19; page = 0; day = 0; blocks = 0 })
    × ((title : List ℕ) → ReadsTitle c title → title ≡ [])
    × ((store : Store) (sealing tagging : WorkingKey) (number : ℕ) (before after : List ℕ) → OpensPage store sealing tagging c number before after
    → PageKeys store sealing tagging number (number ≡ 19) × (after ≡ before))

abbrev pub NotWholeRefused : Type 0
NotWholeRefused =
    (r : List ℕ) → is_record r ≡ true
    → ((k : ℕ) → k < length r → RefusedByBoth (take k r)) × ((x : ℕ) (more : List ℕ) → RefusedByBoth (r ++ (x ∷ more)))

-- ---- documents 01 and 02 on keys and sets, of operations with two keys

-- "Later answers depend on the used words only": Demands' `OfUsedWords`, of two calls with the sealing keys alike and the tag keys alike
abbrev pub OfUsedWordsOfBoth : {A Z B G L : Type 0} → (A → Z → B → Type 0) → (A → WorkingKey) → (A → WorkingKey) → (A → G) → (B → L) → Type 0
OfUsedWordsOfBoth {A} {Z} {B} Call sealing tagging given left =
    (a b : A) (y z : Z) (e f : B) → Call a y e → Call b z f → SameUsed (sealing a) (sealing b) → SameUsed (tagging a) (tagging b) → given a ≡ given b
    → (y ≡ z) × (left e ≡ left f)

-- Job 7's "What one publisher gets from a call depends on its key, its input, the sets ..": crate publishers' `UseReads`, of two stores that have the two
-- sets that the keys name alike, loaded or not, whoever has taken what
abbrev pub SetsAlike : Store → Store → WorkingKey → WorkingKey → Type 0
SetsAlike s t sealing tagging = (set_in s sealing.set ≡ set_in t sealing.set) × (set_in s tagging.set ≡ set_in t tagging.set)

-- as a store is after any calls of both publishers in which neither set was loaded anew
abbrev pub SetsKept : Type 0
SetsKept =
    (s : Store) (cs : List Call) (sealing tagging : WorkingKey) → renewed sealing.set s cs ≡ false → renewed tagging.set s cs ≡ false
    → SetsAlike s (after_all s cs) sealing tagging

abbrev pub WritesBySets : Type 0
WritesBySets =
    (s t : Store) (sealing tagging : WorkingKey) (page day : ℕ) (title start body before : List ℕ) (y z : ℕ) (e f : List ℕ) → SetsAlike s t sealing tagging
    → WritesPage s sealing tagging page day title start body y before e → WritesPage t sealing tagging page day title start body z before f
    → (y ≡ z) × (e ≡ f)

abbrev pub OpensBySets : Type 0
OpensBySets =
    (s t : Store) (sealing tagging : WorkingKey) (r before : List ℕ) (y z : ℕ) (e f : List ℕ) → SetsAlike s t sealing tagging
    → OpensPage s sealing tagging r y before e → OpensPage t sealing tagging r z before f → (y ≡ z) × (e ≡ f)
